-- Lists of headers: their words, and the words before these.
use Rattle.std.proofs.Common.{◌≡◌, ◌∙◌, ℕ, ◌<◌, List, [], ◌∷◌, ◌++◌, length, take, set, get_or, None, sym, ap}
use Rattle.std.proofs.lemmas.List.{get_or_read, length-map, map-set, map_push, take-map}
use Rattle.std.proofs.Math.ListN.{get_or-map}
use Rattle.std.proofs.Math.Seq.{map-set_same}
use Rattle.of_dict.specs.Headers.{Entry, links_of, words_of}
use Rattle.of_dict.specs.Words.{word_at}

-- what is read where there is no header
abbrev pub nothing : Entry
nothing = record { word = None; link = None }

pub words_many : (es : List Entry) → length (words_of es) ≡ length es
words_many es = length-map es (λ e. e.word)

pub words_pushed : (es : List Entry) (e : Entry) → words_of (es ++ e ∷ []) ≡ words_of es ++ e.word ∷ []
words_pushed es e = map_push (λ x. x.word) es e

pub links_pushed : (es : List Entry) (e : Entry) → links_of (es ++ e ∷ []) ≡ links_of es ++ e.link ∷ []
links_pushed es e = map_push (λ x. x.link) es e

pub words_set : (es : List Entry) (n : ℕ) (e : Entry) → words_of (set es n e) ≡ set (words_of es) n e.word
words_set es n e = map-set (λ x. x.word) es n e

pub links_set :
    (es : List Entry) (n : ℕ) (e : Entry) → e.link ≡ (get_or es n nothing).link → links_of (set es n e) ≡ links_of es
links_set es n e same = map-set_same (λ x. x.link) es n e nothing same

pub words_taken : (es : List Entry) (n : ℕ) → words_of (take n es) ≡ take n (words_of es)
words_taken es n = sym (take-map (λ x. x.word) n es)

pub links_taken : (es : List Entry) (n : ℕ) → links_of (take n es) ≡ take n (links_of es)
links_taken es n = sym (take-map (λ x. x.link) n es)

pub word_there : (es : List Entry) (n : ℕ) → word_at (words_of es) n ≡ (get_or es n nothing).word
word_there es n = get_or-map (λ x. x.word) es n nothing

pub link_there : (es : List Entry) (n : ℕ) → get_or (links_of es) n None ≡ (get_or es n nothing).link
link_there es n = get_or-map (λ x. x.link) es n nothing

-- the link of a header that was read
pub link_read :
    (es : List Entry) (n : ℕ) (e : Entry) → n < length es → e ≡ get_or es n e → e.link ≡ get_or (links_of es) n None
link_read es n e within at = ap (λ x. x.link) (get_or_read es n e within at nothing) ∙ sym (link_there es n)
