-- Words: what one word of a text leaves. Remaking: the words of printed elements compile these again. Limits, Going:
-- none of them throws but where a limit is met.
-- Alike: elements that differ in plain items alone have bodies that do. Opening: `:` and a name. ReadBack: what is
-- printed is the definition.
mod Words
mod Remaking
mod Limits
mod Going
mod Alike
mod Opening
mod ReadBack
