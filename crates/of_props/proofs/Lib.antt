mod Readable
mod Put
mod Encoded
mod ReadingBack
mod StringsBack
mod Adjoining
mod Refused
