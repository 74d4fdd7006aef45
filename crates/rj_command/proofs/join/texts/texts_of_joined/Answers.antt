use Rattle.std.proofs.Common.{◌≡◌, ◌∙◌, All, ap, map, subst, sym}
use Rattle.std.specs.List.{concat}
use Rattle.std.proofs.lemmas.Result.{IfOk-weaker}
use Rattle.rj_columns.specs.Tables.{TableValue}
use Rattle.rj_engine.specs.Shown.{IsRunOf}
use Rattle.rj_command.specs.Internal.Texts.{AreWithin, no_table, text_in}
use Rattle.rj_command.proofs.TextFacts.{all-within, rows_of, whole-texts}
use Rattle.std.specs.Prelude.{slice_index_or}
use Rattle.rj_command.proofs.join.texts.texts_of_joined.Goals as goal

pub texts_of_runs-requires-clause-within : goal.texts_of_runs-requires-clause-within
texts_of_runs-requires-clause-within g c κs within = λ k low.
    let w = c.args.written.now in
    let segments = c.in_ok-segments.segments.items in
    let runs = c.in_ok-runs.runs.items in
    let types : All (λ (t : TableValue). t.types ≡ c.args.left.types) segments = λ i d lt. (c.in_ok-segments.ensures.same i d lt).1 in
    let each = subst (λ ss. All (IsRunOf ss (rows_of w)) runs) c.deref.ensures.value c.in_ok-runs.ensures.each in
    subst (AreWithin w (slice_index_or segments k no_table) k) (sym c.deref-2.ensures.value)
    (all-within w segments c.args.left runs k (sym c.in_ok-segments.ensures.rows) types c.requires.shown c.requires.ends each low)

pub returns : goal.returns
returns g c =
    let w = c.args.written.now in
    let segments = c.in_ok-segments.segments.items in
    let runs = c.in_ok-runs.runs.items in
    let types : All (λ (t : TableValue). t.types ≡ c.args.left.types) segments = λ i d lt. (c.in_ok-segments.ensures.same i d lt).1 in
    let each = subst (λ ss. All (IsRunOf ss (rows_of w)) runs) c.deref.ensures.value c.in_ok-runs.ensures.each in
    let whole = ap (λ rs. concat (map (text_in w segments) rs)) c.deref-2.ensures.value
    ∙ whole-texts w segments c.args.left runs (sym c.in_ok-segments.ensures.rows) types c.in_ok-runs.ensures.follow each in
    IfOk-weaker c.texts_of_runs.result _ _ (λ texts is. is ∙ whole) c.texts_of_runs.ensures
