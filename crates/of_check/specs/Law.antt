-- What an image is of which nothing is found (IEEE 1275-1994, 5.2.2, 5.2.2.5, 5.3.3).
use Rattle.std.specs.Prelude.{◌≡◌, ◌↔◌, ℕ, ◌≤◌, ℤ, true, List, [], ◌∷◌, length, Some, None, Ok, IsSome}
use Rattle.of_stream.specs.Decoding.{Offset}
use Rattle.of_stream.specs.Image.{header_fault}
use Rattle.of_stream.specs.Targets.{landing}
use Rattle.of_control.specs.Body.{Body}
use Rattle.of_control.specs.Element.{Element}
use Rattle.of_control.specs.Law.{IsBodyIn}
use Rattle.of_compile.specs.declared.element.PlainItem.{PlainItem}
use Rattle.of_detok.specs.declared.notes.Extras.{Extras}
use Rattle.of_detok.specs.Labels.{said_length, said_sum}
use Rattle.of_detok.specs.Listing.{listed as listing_of}
use Rattle.of_check.specs.declared.finding.Finding.{Finding}
use Rattle.of_check.specs.Tokens.{Standing, tokens_of}
use Rattle.of_check.specs.Structures.{deepest, elements_behind}
use Rattle.of_check.specs.Findings.{actual_sum, findings_of, is_made, is_own, position_of}

-- a token of an image of so many bytes, with those before and behind it, is in order
pub record IsInOrder (end : ℕ) (before : List Standing) (s : Standing) (behind : List Standing) : Type 0 where
  -- its offset leads to where a token may stand
  pub inside : (by : ℤ) → s.token.argument ≡ Offset by → IsSome (landing end s.position by)
  -- as a word of the image it is made by a token before it
  pub made : is_own s.token.code.0 ≡ true → is_made before s.token.code.0 ≡ true
  -- the definition that it opens has a body
  pub nested :
      (es : List (Element PlainItem)) → s.token.code.0 ≡ 0x0b7 → elements_behind [] behind ≡ Some es
      → (b : Body PlainItem) × IsBodyIn deepest es b

-- and so are all of these
abbrev pub AreInOrder : ℕ → List Standing → List Standing → Type 0
AreInOrder end before [] = Unit {0}
AreInOrder end before (s ∷ behind) = IsInOrder end before s behind × AreInOrder end (s ∷ before) behind

pub record IsClean (image : List ℕ) : Type 0 where
  pub opened : header_fault image ≡ None
  pub sum_said : said_sum image ≡ actual_sum image
  pub length_said : said_length image ≡ length image
  -- each token up to an end token can be read
  pub read : (tokens_of image).unread ≡ None
  pub ordered : AreInOrder (length image) [] (tokens_of image).tokens

pub record CleanImagesAreListed : Type 0 where
  -- nothing is found exactly where the image is clean
  pub clean : (image : List ℕ) → (findings_of image ≡ []) ↔ IsClean image
  -- and then it has a whole listing
  pub listed : (image : List ℕ) (e : Extras) → findings_of image ≡ []
      → (text : List ℕ) × (listing_of e image ≡ Ok text)

-- ---- order

-- from a position on no finding stands before the one before it
abbrev pub AreOrdered : ℕ → List Finding → Type 0
AreOrdered p [] = Unit {0}
AreOrdered p (f ∷ fs) = (p ≤ position_of f) × AreOrdered (position_of f) fs

abbrev pub FindingsAreOrdered : Type 0
FindingsAreOrdered = (image : List ℕ) → AreOrdered 0 (findings_of image)
