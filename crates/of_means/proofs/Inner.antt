-- The tokens that stand in a definition: each is plain, or leaves the element of its word of control.
use Rattle.std.proofs.Common.{◌≡◌, ◌⊎◌, inl, inr, ℕ, ℤ, Bool, true, false, List, [], ◌∷◌, ◌+◌, Some, refl, sym}
use Rattle.std.proofs.Common.{◌∙◌}
use Rattle.of_fcodes.specs.Lookup.{row_numbered}
use Rattle.of_fcodes.specs.Rows.{rows, first_rows, second_rows, third_rows, fourth_rows, fifth_rows, sixth_rows}
use Rattle.of_fcodes.specs.Rows.{seventh_rows}
use Rattle.of_fcodes.specs.Tokens.{Table}
use Rattle.of_stream.specs.Decoding.{Offset, Token}
use Rattle.of_control.specs.Element.{Element}
use Rattle.of_control.specs.Element as element
use Rattle.of_compile.specs.declared.element.PlainItem.{PlainItem}
use Rattle.of_source.specs.Items.{bare}
use Rattle.of_source.specs.Keywords.{fcode}
use Rattle.of_source.specs.Nest.{Around, Fits, Nest, Stop, Plain, Definition, Defining, If, Else, Then, Begin, Do}
use Rattle.of_source.specs.Nest.{Leave}
use Rattle.of_source.specs.Nest.{Case, Of, in_part}
use Rattle.of_source.specs.Plain.{IsPlain}
use Rattle.of_tok.specs.declared.place.Place.{Place}
use Rattle.of_tok.specs.Tokens.{Written, branch_code, do_code, loop_code, token_of, written}
use Rattle.of_flow.specs.declared.control.ControlWord.TheVariants as control
use Rattle.of_flow.specs.declared.token.Token.{Token as Typing}
use Rattle.of_flow.specs.declared.token.Token.TheVariants as token
use Rattle.of_flow.specs.Tokens.{Typed, typed_of}
use Rattle.of_flow.specs.Tokens as typed
use Rattle.of_eval.specs.declared.tokens.Spot.{Spot}
use Rattle.of_eval.specs.Acts.{Does, Front}
use Rattle.of_eval.specs.Tokens.{appending, compiling_act}
use Rattle.of_eval.specs.Tokens as eval
use Rattle.of_eval_laws.specs.Tokens.{TokensAreTyped}
use Rattle.of_meaning.specs.Elements.{control_element}
use Rattle.of_means.specs.Means.{is_executed}
use Rattle.of_means.specs.Sources.{HasWords}

-- a token of control, and what it leaves at a position
pub record IsOfControl (t : Token) : Type 0 where
  pub word : Typing
  pub left : ℕ → Element PlainItem
  pub kind : typed_of t ≡ typed.Plain word
  pub does : (here : Spot) (f : Front) → compiling_act word here f ≡ Does (appending (left here.position) f)
  pub listed : (position : ℕ) → control_element t position ≡ Some (left position)
  pub waits : (table : Table) → is_executed (typed.Plain word) table ≡ false

abbrev pub IsInner : Token → Type 0
IsInner t = IsPlain t ⊎ IsOfControl t

abbrev pub AreInner : List Written → Type 0
AreInner [] = Unit {0}
AreInner (w ∷ ws) = IsInner (token_of w) × AreInner ws

not_both : true ≡ false → ⊥
not_both e = cc

-- the tables of FCodes, and of tokens that are compiled
fcodes : Unit {0}
unfolding row_numbered rows first_rows second_rows third_rows fourth_rows fifth_rows sixth_rows seventh_rows
fcodes = tt

tables : Unit {0}
unfolding fcodes compiling_act
tables = tt

module _ (typing : TokensAreTyped) where
  abbrev with_offset : ℕ → ℤ → Token
  with_offset k by = record { code = fcode k; argument = Offset by }

  branch_inner : (by : ℤ) → IsInner (with_offset 0x013 by)
  unfolding tables
  branch_inner by =
      inr (record {
        word = token.Control control.Branch by;
        left = λ n. eval.control_element control.Branch n by;
        kind = typing.branch by;
        does = λ here f. refl;
        listed = λ n. refl;
        waits = λ table. refl;
      })

  if_inner : (by : ℤ) → IsInner (with_offset 0x014 by)
  unfolding tables
  if_inner by =
      inr (record {
        word = token.Control control.BranchIfZero by;
        left = λ n. eval.control_element control.BranchIfZero n by;
        kind = typing.branch_if_zero by;
        does = λ here f. refl;
        listed = λ n. refl;
        waits = λ table. refl;
      })

  loop_inner : (by : ℤ) → IsInner (with_offset 0x015 by)
  unfolding tables
  loop_inner by =
      inr (record {
        word = token.Control control.Loop by;
        left = λ n. eval.control_element control.Loop n by;
        kind = typing.«loop» by;
        does = λ here f. refl;
        listed = λ n. refl;
        waits = λ table. refl;
      })

  plus_loop_inner : (by : ℤ) → IsInner (with_offset 0x016 by)
  unfolding tables
  plus_loop_inner by =
      inr (record {
        word = token.Control control.PlusLoop by;
        left = λ n. eval.control_element control.PlusLoop n by;
        kind = typing.plus_loop by;
        does = λ here f. refl;
        listed = λ n. refl;
        waits = λ table. refl;
      })

  do_inner : (by : ℤ) → IsInner (with_offset 0x017 by)
  unfolding tables
  do_inner by =
      inr (record {
        word = token.Control control.Do by;
        left = λ n. eval.control_element control.Do n by;
        kind = typing.begin_loop by;
        does = λ here f. refl;
        listed = λ n. refl;
        waits = λ table. refl;
      })

  question_do_inner : (by : ℤ) → IsInner (with_offset 0x018 by)
  unfolding tables
  question_do_inner by =
      inr (record {
        word = token.Control control.QuestionDo by;
        left = λ n. eval.control_element control.QuestionDo n by;
        kind = typing.question_do by;
        does = λ here f. refl;
        listed = λ n. refl;
        waits = λ table. refl;
      })

  of_inner : (by : ℤ) → IsInner (with_offset 0x01c by)
  unfolding tables
  of_inner by =
      inr (record {
        word = token.Control control.Of by;
        left = λ n. eval.control_element control.Of n by;
        kind = typing.of by;
        does = λ here f. refl;
        listed = λ n. refl;
        waits = λ table. refl;
      })

  endof_inner : (by : ℤ) → IsInner (with_offset 0x0c6 by)
  unfolding tables
  endof_inner by =
      inr (record {
        word = token.Control control.EndOf by;
        left = λ n. eval.control_element control.EndOf n by;
        kind = typing.endof by;
        does = λ here f. refl;
        listed = λ n. refl;
        waits = λ table. refl;
      })

  leave_inner : IsInner (bare 0x01b)
  unfolding tables
  leave_inner =
      inr (record {
        word = token.Leave;
        left = λ n. element.Leave;
        kind = typing.leave;
        does = λ here f. refl;
        listed = λ n. refl;
        waits = λ table. refl;
      })

  mark_inner : IsInner (bare 0x0b1)
  unfolding tables
  mark_inner =
      inr (record {
        word = token.Mark;
        left = λ n. element.Mark (Some n);
        kind = typing.mark;
        does = λ here f. refl;
        listed = λ n. refl;
        waits = λ table. refl;
      })

  resolve_inner : IsInner (bare 0x0b2)
  unfolding tables
  resolve_inner =
      inr (record {
        word = token.Resolve;
        left = λ n. element.Resolve (Some n);
        kind = typing.resolve;
        does = λ here f. refl;
        listed = λ n. refl;
        waits = λ table. refl;
      })

  case_inner : IsInner (bare 0x0c4)
  unfolding tables
  case_inner =
      inr (record {
        word = token.Case;
        left = λ n. element.Case;
        kind = typing.case;
        does = λ here f. refl;
        listed = λ n. refl;
        waits = λ table. refl;
      })

  endcase_inner : IsInner (bare 0x0c5)
  unfolding tables
  endcase_inner =
      inr (record {
        word = token.EndCase;
        left = λ n. element.EndCase;
        kind = typing.endcase;
        does = λ here f. refl;
        listed = λ n. refl;
        waits = λ table. refl;
      })

  back_inner : (v : Bool) (by : ℤ) → IsInner (with_offset (branch_code v) by)
  back_inner true by = if_inner by
  back_inner false by = branch_inner by

  enter_inner : (v : Bool) (by : ℤ) → IsInner (with_offset (do_code v) by)
  enter_inner true by = question_do_inner by
  enter_inner false by = do_inner by

  again_inner : (v : Bool) (by : ℤ) → IsInner (with_offset (loop_code v) by)
  again_inner true by = plus_loop_inner by
  again_inner false by = loop_inner by

  -- a definition has no definition inside
  pub inner_all : (x : Nest) (a : Around) (floor d : ℕ) (p : Place) (to : List ℕ) (out : ℕ) (ws : List Written)
      → a.defines ≡ true → Fits x a floor d → HasWords x → AreInner ws → AreInner (written x p to out ws)
  inner_all Stop a floor d p to out ws e f h k = k
  inner_all (Plain t r) a floor d p to out ws e f h k =
      (inl h.0, inner_all r a floor d _ to out ws e f h.1 k)
  inner_all (Definition x i r) a floor d p to out ws e f h k = absurd (not_both (sym e ∙ f.0))
  inner_all (Defining x t r) a floor d p to out ws e f h k = absurd (not_both (sym e ∙ f.0))
  inner_all (If l r) a floor d p to out ws e f h k = (if_inner _, inner_all r a floor (d + 1) _ to out ws e f h k)
  inner_all (Else l r) a floor d p to out ws e f h k =
      (branch_inner _, (resolve_inner, inner_all r a floor d _ to out ws e f.1 h k))
  inner_all (Then r) a floor d p to out ws e f h k = (resolve_inner, inner_all r a floor _ _ to out ws e f.1 h k)
  inner_all (Begin i v l r) a floor d p to out ws e f h k = (
    mark_inner,
    inner_all i (in_part a) d d _ _ out _ e f.0 h.0 (back_inner v _, inner_all r a floor _ _ to out ws e f.1 h.1 k),
  )
  inner_all (Do v q i l m r) a floor d p to out ws e f h k = (
    enter_inner v _,
    inner_all i (record { defines = a.defines; loops = true; cases = false }) d d _ _ _ _ e f.0 h.0
        (again_inner l _, inner_all r a floor d _ to out ws e f.2 h.1 k),
  )
  inner_all (Leave r) a floor d p to out ws e f h k = (leave_inner, inner_all r a floor d _ to out ws e f.1 h k)
  inner_all (Case i r) a floor d p to out ws e f h k = (
    case_inner,
    inner_all i (record { defines = a.defines; loops = a.loops; cases = true }) d d _ _ _ _ e f.0 h.0
        (endcase_inner, inner_all r a floor d _ to out ws e f.2 h.1 k),
  )
  inner_all (Of q i m r) a floor d p to out ws e f h k = (
    of_inner _,
    inner_all i (in_part a) d d _ _ _ _ e f.2 h.0 (endof_inner _, inner_all r a floor d _ to out ws e f.4 h.1 k),
  )
