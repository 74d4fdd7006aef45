use Rattle.std.proofs.Common.{◌≡◌, ◌∙◌, ap, map, sym, true, false, Bool, Bor, List}
use Rattle.std.specs.Prelude.{if◌then◌else◌}
use Rattle.std.specs.List.{list_any}
use Rattle.clap.proofs.WalkLemmas.{list_any-map}
use Rattle.clap.specs.Words.{Text}
use Rattle.rj_line.specs.Forms.{is_of_long}
use Rattle.rj_line.specs.declared.form.Form.TheVariants as form
use Rattle.rj_line.proofs.form.form_of.Goals as goal

-- whether a word is one of the long form
any_word : (words : List (Bor Text)) (b found : Bool) → b ≡ list_any (λ (w : Bor Text). is_of_long w.now) words → b ≡ found
    → list_any is_of_long (map (λ (w : Bor Text). w.now) words) ≡ found
any_word words b found is test = sym (list_any-map is_of_long (λ (w : Bor Text). w.now) words) ∙ (sym is ∙ test)

pub returns-then-has_word_of_long : goal.returns-then-has_word_of_long
returns-then-has_word_of_long c =
    sym (ap (λ (b : Bool). if b then form.Long else form.Short) (any_word c.args.words.now c.has_word_of_long.result true c.has_word_of_long.ensures c.if-has_word_of_long.true))

pub returns-else-has_word_of_long : goal.returns-else-has_word_of_long
returns-else-has_word_of_long c =
    sym (ap (λ (b : Bool). if b then form.Long else form.Short) (any_word c.args.words.now c.has_word_of_long.result false c.has_word_of_long.ensures c.if-has_word_of_long.false))
