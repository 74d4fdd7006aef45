use Rattle.std.proofs.Common.{◌≡◌, ◌∙◌, List, ℕ, Result, Ok, Err, ap, map, sym}
use Rattle.std.specs.Prelude.{replicate}
use Rattle.std.specs.Result.{IfOk}
use Rattle.std.proofs.lemmas.Simd.{splat_is_map}
use Rattle.csv.specs.Reading.{records, strip_bom}
use Rattle.rj_columns.specs.declared.cell.ColumnType.TheVariants as kind
use Rattle.rj_csv_io.specs.Pieces.{names_in}
use Rattle.rj_csv_io.specs.StrictReading.{config_of}
use Rattle.rj_line.specs.Suggested.{texts_for}
use Rattle.rj_line.proofs.suggest.texts_for.Goals as goal

if-ok : {T E : Type 0} (r : Result T E) (P Q : T → Type 0) → ((v : T) → P v → Q v) → IfOk r P → IfOk r Q
if-ok (Ok v) P Q f h = f v h
if-ok (Err e) P Q f h = tt

pub returns-in-Some : goal.returns-in-Some
returns-in-Some c =
    let (rest, got) = rw c.in-Some.is at c.in_ok-header.ensures in
    let shown = texts_for (records (config_of c.args.delimiter) (strip_bom c.args.bytes.now)) in
    let header = names_in c.in-Some.header in
    let found : shown ≡ map (λ _. kind.Text) header =
    ap (λ (bs : List ℕ). texts_for (records (config_of c.args.delimiter) bs)) (sym c.without_bom.ensures) ∙ ap texts_for got in
    let same : replicate c.columns.result kind.Text ≡ shown = splat_is_map header c.columns.result kind.Text (sym c.columns.ensures) ∙ sym found in
    if-ok c.texts.result (λ types. types.items ≡ replicate c.columns.result kind.Text) (λ types. types.items ≡ shown) (λ types is. is ∙ same) c.texts.ensures
