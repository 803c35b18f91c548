-- Texts of answers, of calls and of scripts, worked by hand.
use Rattle.std.proofs.Common.{◌≡◌, ◌++◌, [], ◌∷◌, ℕ, List, Result, Ok, Err, codes, refl}
use Rattle.of_asking.specs.declared.query.Answer.{Answer}
use Rattle.of_asking.specs.declared.query.Answer.TheVariants as answer
use Rattle.of_format.specs.Digits.{digit_of}
use Rattle.of_source.specs.declared.place.Place.{Place}
use Rattle.of_calls.specs.Answers.{answer_in, parsed_answers}
use Rattle.of_calls.specs.Calls.{asked, call_in, handle_kind_of, kind_of, of_handle, parsed}
use Rattle.of_calls.specs.Said.{all_said}
use Rattle.of_calls.specs.Scripts.{Break, Clear, Code, Go, In, Name, Out, Over, break_in, clear_in, parsed_script}
use Rattle.of_calls.specs.Scripts.{script_in}
use Rattle.of_calls.specs.declared.fault.TextFault.{TextFault}
use Rattle.of_calls.specs.declared.fault.TextFault.TheVariants as fault

place : ℕ → ℕ → Place
place line column = record { line = line; column = column }

-- the first fault of a text of answers
wrong : TextFault → Result (List Answer) TextFault
wrong f = Err f

all_three : parsed_answers (codes "v ffFFffff" ++ 10 ∷ codes "\tdone " ++ 10 ∷ codes "fault" ++ 10 ∷ [])
    ≡ Ok (answer.Value 0xffffffff ∷ answer.Done ∷ answer.BusFault ∷ [])
unfolding all_said answer_in digit_of
all_three = refl

no_line : parsed_answers [] ≡ Ok []
unfolding all_said
no_line = refl

last_lacks_its_end : parsed_answers (codes "done" ++ 10 ∷ codes "v 0") ≡ Ok (answer.Done ∷ answer.Value 0 ∷ [])
unfolding all_said answer_in digit_of
last_lacks_its_end = refl

blank_line : parsed_answers (codes "done" ++ 10 ∷ 10 ∷ codes "done") ≡ wrong (fault.Unknown (place 2 1))
unfolding all_said answer_in place wrong
blank_line = refl

line_of_blanks : parsed_answers (codes "  ") ≡ wrong (fault.Unknown (place 1 3))
unfolding all_said answer_in place wrong
line_of_blanks = refl

number_missing : parsed_answers (codes "v") ≡ wrong (fault.BadNumber (place 1 2))
unfolding all_said answer_in place wrong
number_missing = refl

number_too_high : parsed_answers (codes "v 100000000") ≡ wrong (fault.BadNumber (place 1 3))
unfolding all_said answer_in digit_of place wrong
number_too_high = refl

word_too_many : parsed_answers (codes "v 5 6") ≡ wrong (fault.TooMany (place 1 5))
unfolding all_said answer_in digit_of place wrong
word_too_many = refl

carriage_return : parsed_answers (codes "done\r" ++ 10 ∷ []) ≡ wrong (fault.Unknown (place 1 1))
unfolding all_said answer_in place wrong
carriage_return = refl

no_answer : parsed_answers (codes "done" ++ 10 ∷ codes " x" ++ 10 ∷ []) ≡ wrong (fault.Unknown (place 2 2))
unfolding all_said answer_in place wrong
no_answer = refl

no_call : parsed (codes "child 0" ++ 10 ∷ 10 ∷ []) ≡ Err (fault.Unknown (place 2 1))
unfolding all_said call_in kind_of handle_kind_of asked of_handle digit_of place
no_call = refl

script_of_moves : parsed_script (codes "in" ++ 10 ∷ codes " over" ++ 10 ∷ codes "out " ++ 10 ∷ codes "go 4294967295")
    ≡ Ok (In ∷ Over ∷ Out ∷ Go 4294967295 ∷ [])
unfolding all_said script_in digit_of
script_of_moves = refl

script_of_stops : parsed_script (codes "break dup 010" ++ 10 ∷ codes "clear #fF 0" ++ 10 ∷ [])
    ≡ Ok (Break (Name (codes "dup")) 10 ∷ Clear (Code 0xff) 0 ∷ [])
unfolding all_said script_in break_in clear_in digit_of
script_of_stops = refl

no_codes : parsed_script (codes "break # 1" ++ 10 ∷ codes "break #-1 1" ++ 10 ∷ codes "break #100000000 1")
    ≡ Ok (Break (Name (codes "#")) 1 ∷ Break (Name (codes "#-1")) 1 ∷ Break (Name (codes "#100000000")) 1 ∷ [])
unfolding all_said script_in break_in digit_of
no_codes = refl

word_missing : parsed_script (codes "break") ≡ Err (fault.BadNumber (place 1 6))
unfolding all_said script_in break_in place
word_missing = refl

item_missing : parsed_script (codes "clear dup ") ≡ Err (fault.BadNumber (place 1 11))
unfolding all_said script_in clear_in place
item_missing = refl

item_hexadecimal : parsed_script (codes "break dup a") ≡ Err (fault.BadNumber (place 1 11))
unfolding all_said script_in break_in digit_of place
item_hexadecimal = refl

steps_too_many : parsed_script (codes "go 4294967296") ≡ Err (fault.BadNumber (place 1 4))
unfolding all_said script_in digit_of place
steps_too_many = refl

steps_negative : parsed_script (codes "in" ++ 10 ∷ codes "go -1") ≡ Err (fault.BadNumber (place 2 4))
unfolding all_said script_in digit_of place
steps_negative = refl

return_in_name : parsed_script (codes "break du\rp 1") ≡ Err (fault.BadName (place 1 7))
unfolding all_said script_in break_in place
return_in_name = refl

word_behind_out : parsed_script (codes "out 1") ≡ Err (fault.TooMany (place 1 5))
unfolding all_said script_in place
word_behind_out = refl

no_command : parsed_script (codes "In") ≡ Err (fault.Unknown (place 1 1))
unfolding all_said script_in place
no_command = refl
