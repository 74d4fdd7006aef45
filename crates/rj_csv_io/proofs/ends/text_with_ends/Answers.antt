use Rattle.std.proofs.Common.{◌≡◌, ◌∙◌, ◌++◌, ap, arith, sym}
use Rattle.std.proofs.lemmas.Result.{IfOk-weaker}
use Rattle.rj_csv_io.specs.Ends.{records_between}
use Rattle.rj_csv_io.proofs.EndFacts.{length-records, range-records, records-ended}
use Rattle.rj_csv_io.proofs.ends.text_with_ends.Goals as goal

pub returns : goal.returns
returns g c = λ rows h.
    let fronts = g.S.RowSource.contents c.args.fronts.now in
    let d = c.args.format.now.delimiter in
    let null = c.args.format.now.null.now in
    let from = c.args.from in
    let to = c.args.to in
    let within = c.requires.within in
    let own = records_between d null fronts from to in
    let made : c.add_texts.new.texts ≡ own = c.in_ok-add_texts.ensures ∙ ap (λ ts. ts ++ own) c.new-texts.ensures in
    let long = length-records d null fronts from to within in
    let same = length-records d null rows from to (omega (arith, within, h.count)) ∙ sym long in
    let text = rw made at (c.text_of_fronts.ensures (records_between d null rows from to)) in
    IfOk-weaker c.text_of_fronts.result _ _ (λ v is. is ∙ range-records d null rows from to)
    (text same (λ k low. records-ended d null fronts rows c.args.ends.now from to k h within (omega (arith, low, long))))
