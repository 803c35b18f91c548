use Rattle.std.proofs.Common.{ap, [], map, reverse, subst, sym, ◌<◌, ◌∙◌}
use Rattle.std.specs.List.{All}
use Rattle.of_source.specs.Encodable.{HasBytes}
use Rattle.of_tok.specs.declared.place.Place.{Place}
use Rattle.of_tok.specs.Image.{most_bytes}
use Rattle.of_tok.specs.Layout.{CannotPlace, Placed, end_place, placed}
use Rattle.of_tok.specs.Places.{first_place}
use Rattle.of_tok.specs.Shown.{placed_shown, written_shown}
use Rattle.of_source.specs.Items.{item_shown}
use Rattle.of_tok.proofs.ImageLemmas.{cannot_place, each_has_bytes, has_room, laid_tokens, placed_have_bytes}
use Rattle.of_tok.proofs.ImageLemmas.{tokens_writable}
use Rattle.of_tok.proofs.tokenizer.tokens_of.Goals as goal

pub place_items-requires-clause-bytes : goal.place_items-requires-clause-bytes
place_items-requires-clause-bytes c =
    each_has_bytes c.args.source.now c.items.result.now c.items.ensures.sound.encodable c.items.ensures.items c.requires

pub lay_out-requires : goal.lay_out-requires
lay_out-requires c =
    subst (All (λ (x : Placed). HasBytes x.item)) (sym c.in-Ok.ensures.items)
    (placed_have_bytes (map item_shown c.items.result.now) c.first-start.result []
    (subst (All HasBytes) (sym c.items.ensures.items) (c.items.ensures.sound.encodable c.requires)))

pub returns-in-Err-clause-err : goal.returns-in-Err-clause-err
returns-in-Err-clause-err c =
    cannot_place c.items_give_nest.ensures c.args.source.now c.items.ensures.sound.nested c.requires c.in-Err.fault
    (subst (λ is. CannotPlace is (first_place c.args.source.now.size) c.in-Err.fault) c.items.ensures.items
    (subst (λ (p : Place). CannotPlace (map item_shown c.items.result.now) p c.in-Err.fault)
    (c.first-start.ensures ∙ ap first_place c.size.ensures) c.in-Err.ensures.fault))

pub returns-clause-tokens : goal.returns-clause-tokens
returns-clause-tokens c =
    laid_tokens c.items_give_nest.ensures c.args.source.now c.items.ensures.sound.nested c.in-Ok.found.1
    (map placed_shown c.in-Ok.found.0.items) (reverse (map written_shown c.in_ok-lay_out.field-0.items))
    (c.in-Ok.ensures.items
    ∙ ap (λ is. placed is c.first-start.result []) c.items.ensures.items
    ∙ ap (λ (p : Place). placed c.args.source.now.items p []) (c.first-start.ensures ∙ ap first_place c.size.ensures))
    (c.in-Ok.ensures.end
    ∙ ap (λ is. end_place is c.first-start.result) c.items.ensures.items
    ∙ ap (end_place c.args.source.now.items) (c.first-start.ensures ∙ ap first_place c.size.ensures))
    c.in_ok-lay_out.ensures

pub returns-clause-writable : goal.returns-clause-writable
returns-clause-writable c =
    tokens_writable c.args.source.now (reverse (map written_shown c.in_ok-lay_out.field-0.items))
    c.items_give_nest.ensures c.items.ensures.sound.nested c.items.ensures.sound.encodable c.requires
    (laid_tokens c.items_give_nest.ensures c.args.source.now c.items.ensures.sound.nested c.in-Ok.found.1
    (map placed_shown c.in-Ok.found.0.items) (reverse (map written_shown c.in_ok-lay_out.field-0.items))
    (c.in-Ok.ensures.items
    ∙ ap (λ is. placed is c.first-start.result []) c.items.ensures.items
    ∙ ap (λ (p : Place). placed c.args.source.now.items p [])
    (c.first-start.ensures ∙ ap first_place c.size.ensures))
    (c.in-Ok.ensures.end
    ∙ ap (λ is. end_place is c.first-start.result) c.items.ensures.items
    ∙ ap (end_place c.args.source.now.items) (c.first-start.ensures ∙ ap first_place c.size.ensures))
    c.in_ok-lay_out.ensures)

pub returns-clause-room : goal.returns-clause-room
returns-clause-room c =
    has_room c.items_give_nest.ensures c.args.source.now c.items.ensures.sound.nested
    (reverse (map written_shown c.in_ok-lay_out.field-0.items))
    (laid_tokens c.items_give_nest.ensures c.args.source.now c.items.ensures.sound.nested c.in-Ok.found.1
    (map placed_shown c.in-Ok.found.0.items) (reverse (map written_shown c.in_ok-lay_out.field-0.items))
    (c.in-Ok.ensures.items
    ∙ ap (λ is. placed is c.first-start.result []) c.items.ensures.items
    ∙ ap (λ (p : Place). placed c.args.source.now.items p [])
    (c.first-start.ensures ∙ ap first_place c.size.ensures))
    (c.in-Ok.ensures.end
    ∙ ap (λ is. end_place is c.first-start.result) c.items.ensures.items
    ∙ ap (end_place c.args.source.now.items) (c.first-start.ensures ∙ ap first_place c.size.ensures))
    c.in_ok-lay_out.ensures)
    (subst (λ (p : Place). p.position < most_bytes)
    (c.in-Ok.ensures.end
    ∙ ap (λ is. end_place is c.first-start.result) c.items.ensures.items
    ∙ ap (end_place c.args.source.now.items) (c.first-start.ensures ∙ ap first_place c.size.ensures))
    c.in-Ok.ensures.room)
