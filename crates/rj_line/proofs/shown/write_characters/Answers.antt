use Rattle.std.proofs.Common.{◌∙◌, ap, map-id, rules, sym}
use Rattle.std.proofs.Output.{has_written_append, has_written_of_eq}
use Rattle.std.specs.List.{flat_map}
use Rattle.std.specs.Result.{IsOk}
use Rattle.std.proofs.lemmas.Iterator.{YieldsList-from_chars}
use Rattle.std.proofs.lemmas.Iterator.Consumers.{YieldsList-end}
use Rattle.rj_line.specs.Shown.{shown_char}
use Rattle.rj_line.proofs.ShownFacts.{flat_map-one}
use Rattle.rj_line.proofs.shown.write_characters.Goals as goal

pub returns : goal.returns
returns g c = λ plain ok.
    let end = YieldsList-end (YieldsList-from_chars c.args.text.now c.utf8.text cc) c.loop-character.yielded _ c.loop-character.yielded_by _ _ c.in-None.is c.next.ensures.steps in
    has_written_of_eq _ _ _ _ _ (ap (flat_map shown_char) (sym (map-id c.loop-character.yielded) ∙ end.0)) (c.loop-character.invariant plain)

pub loop-character-preserved : goal.loop-character-preserved
loop-character-preserved g c = λ plain.
    let had = c.loop-character.invariant plain in
    let ok : IsOk c.write_character.result = search rules in
    has_written_of_eq _ _ _ _ _ (flat_map-one shown_char c.loop-character.yielded c.in-Some.character)
    (has_written_append _ _ _ _ _ _ had (c.write_character.ensures had.plain ok))
