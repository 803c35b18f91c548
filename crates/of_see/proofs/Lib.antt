-- OwnNumbers: own words by their execution tokens.
-- BeginCounts: how many items go back to each cell. CellByCell: what is printed, cell by cell.
-- PlainItems, CountedBegins, CountedThens: laws on items that go on, `begin`s and `then`s.
-- StringsBack, NumbersBack, WordsBack: the laws on strings, numbers and names.
mod OwnNumbers
mod BeginCounts
mod CellByCell
mod PlainItems
mod CountedBegins
mod CountedThens
mod StringsBack
mod NumbersBack
mod WordsBack
