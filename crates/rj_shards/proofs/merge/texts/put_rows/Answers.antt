use Rattle.std.proofs.Common.{◌≡◌, ◌++◌, refl, ap, subst, sym, ◌∙◌, inl}
use Rattle.std.specs.BinaryHeap.{heap_items}
use Rattle.std.specs.List.{Contains}
use Rattle.rj_csv_io.specs.Devices.{after_failure}
use Rattle.rj_csv_io.proofs.WriteFacts.{ok-holds}
use Rattle.rj_shards.specs.Copies.{copied_rows}
use Rattle.rj_shards.specs.Inputs.{boxed_copies, boxed_reading, boxed_tells}
use Rattle.rj_shards.specs.MergedTexts.{GotFirst, records_text}
use Rattle.rj_shards.specs.Merging.{IsFaultOf, faults_of_heads, faults_of_inputs, lists_of_inputs, rows_of_heads}
use Rattle.rj_shards.specs.Sources.{TellsAmong}
use Rattle.rj_shards.specs.Steps.{stage_of}
use Rattle.rj_shards.proofs.MergePutFacts.{not_memory, only_memory, put-all, put-more, put-none, source_last}
use Rattle.rj_shards.proofs.PartFacts.{boxed_rises, first-none, first-put}
use Rattle.rj_shards.proofs.StepFacts.{gave_fault, gave_faultless, gave_merge}
use Rattle.rj_shards.proofs.WrittenFacts.{ok-if}
use Rattle.rj_shards.proofs.merge.texts.put_rows.Goals as goal

pub returns-in-Err-clause-fault : goal.returns-in-Err-clause-fault
returns-in-Err-clause-fault g c = λ e refused all.
    let same = refused.is in
    let is : c.in-Err.e ≡ e = cc in
    inl (subst (λ x. Contains (faults_of_inputs (boxed_reading g.R.Read.remaining) c.args.sources.items) x) is (c.in-Err.ensures.fault (rw is refused.inside) all))

pub returns-in-Err-clause-input : goal.returns-in-Err-clause-input
returns-in-Err-clause-input g c = λ e told numbers all. let same : c.in-Err.e ≡ e = cc in subst (TellsAmong numbers) same (c.in-Err.ensures.input numbers all)

pub rows-init : goal.rows-init
rows-init g c = record {
  lawful = c.in-Ok.ensures.lawful;
  put = put-none c.args.delimiter (boxed_tells g.R.Read.remaining) boxed_copies (boxed_reading g.R.Read.remaining) c.args.sources.items (g.O.Output.told c.args.output.now) c.args.block c.in-Ok.merge.passed (heap_items c.in-Ok.merge.heads) c.in-Ok.ensures.passed c.in-Ok.ensures.tells c.in-Ok.ensures.rows
      c.in-Ok.ensures.faults;
  among = λ numbers all. c.in-Ok.ensures.among numbers all;
  count = refl;
}

pub returns-in-Ok-None-clause-merge : goal.returns-in-Ok-None-clause-merge
returns-in-Ok-None-clause-merge g c =
    let end = rw c.in-Ok-None.field-0-is at c.in-Ok-None.ensures.end in
    let reading = boxed_reading g.R.Read.remaining in
    let h = c.rows.invariant.put in
    ok-if c.put_block.result (λ good. λ text w all.
    let put = ok-holds c.put_block.result good (c.put_block.ensures.told (g.O.Output.told c.args.output.now) (text ++ records_text c.args.delimiter h.rows) (h.shown text w)) in
    let gave = put-all c.args.delimiter (boxed_tells g.R.Read.remaining) boxed_copies reading c.args.sources.items _ _ _ _ _ _ h c.next.new.self.passed (heap_items c.next.new.self.heads)
    (λ t. rw c.in-Ok-None.field-0-is at (c.in-Ok-None.ensures.step t)) (end refl).0 (end refl).1 all in
    (h.rows, gave_merge boxed_copies reading c.args.sources.items h.rows gave, put.0))

pub returns-in-Ok-None-clause-faults : goal.returns-in-Ok-None-clause-faults
returns-in-Ok-None-clause-faults g c =
    let end = rw c.in-Ok-None.field-0-is at c.in-Ok-None.ensures.end in
    let reading = boxed_reading g.R.Read.remaining in
    let h = c.rows.invariant.put in
    ok-if c.put_block.result (λ good. λ all.
    gave_faultless boxed_copies reading c.args.sources.items h.rows
    (put-all c.args.delimiter (boxed_tells g.R.Read.remaining) boxed_copies reading c.args.sources.items _ _ _ _ _ _ h c.next.new.self.passed (heap_items c.next.new.self.heads)
    (λ t. rw c.in-Ok-None.field-0-is at (c.in-Ok-None.ensures.step t)) (end refl).0 (end refl).1 all))

pub returns-in-Ok-None-clause-fault : goal.returns-in-Ok-None-clause-fault
returns-in-Ok-None-clause-fault g c = λ e refused all. absurd (not_memory c.put_block.result c.put_block.ensures.fault e refused.is refused.inside)

pub returns-in-Ok-None-clause-input : goal.returns-in-Ok-None-clause-input
returns-in-Ok-None-clause-input g c = λ e told numbers all. only_memory c.put_block.result c.put_block.ensures.fault e told numbers

pub returns-in-Ok-None-clause-count : goal.returns-in-Ok-None-clause-count
returns-in-Ok-None-clause-count g c = (λ e. c.put_block.ensures.count.0 e ∙ ap after_failure c.rows.invariant.count, λ e. c.put_block.ensures.count.1 e ∙ c.rows.invariant.count)

pub returns-in-Err-next-clause-fault : goal.returns-in-Err-next-clause-fault
returns-in-Err-next-clause-fault g c = λ e refused all.
    let same = refused.is in
    let is : c.in-Err-next.e ≡ e = cc in
    let h = c.rows.invariant.put in
    let heads = heap_items c.rows.merge.heads in
    let reading = boxed_reading g.R.Read.remaining in
    gave_fault boxed_copies reading c.args.sources.items h.rows (stage_of boxed_copies reading c.rows.merge.passed heads) e (h.gave all)
    (subst (λ x. IsFaultOf (rows_of_heads boxed_copies reading heads) (faults_of_heads reading heads) x) is (c.in-Err-next.ensures.fault (rw is refused.inside) (h.tells all)))

pub returns-in-Err-next-clause-input : goal.returns-in-Err-next-clause-input
returns-in-Err-next-clause-input g c = λ e told numbers all.
    let same : c.in-Err-next.e ≡ e = cc in
    subst (TellsAmong numbers) same (c.in-Err-next.ensures.input numbers (c.rows.invariant.among numbers all))

pub returns-in-Err-add_row-clause-input : goal.returns-in-Err-add_row-clause-input
returns-in-Err-add_row-clause-input g c = λ e told numbers all. only_memory c.add_row.result c.add_row.ensures.fault e (c.in-Err-add_row.is ∙ told) numbers

pub returns-in-Err-add_row-clause-fault : goal.returns-in-Err-add_row-clause-fault
returns-in-Err-add_row-clause-fault g c = λ e refused all. absurd (not_memory c.add_row.result c.add_row.ensures.fault e (c.in-Err-add_row.is ∙ refused.is) refused.inside)

pub returns-in-Err-add_row-clause-count : goal.returns-in-Err-add_row-clause-count
returns-in-Err-add_row-clause-count g c = (λ is. c.in-Err-add_row.ensures.count.0 is ∙ ap after_failure c.rows.invariant.count, λ is. c.in-Err-add_row.ensures.count.1 is ∙ c.rows.invariant.count)

pub returns-in-Err-clause-partly : goal.returns-in-Err-clause-partly
returns-in-Err-clause-partly g c = λ e told text w all.
    first-none c.args.delimiter text (copied_rows (lists_of_inputs boxed_copies (boxed_reading g.R.Read.remaining) c.args.sources.items)) (g.O.Output.told c.args.output.now)

pub returns-in-Ok-None-clause-partly : goal.returns-in-Ok-None-clause-partly
returns-in-Ok-None-clause-partly g c = λ e told text w all.
    let known = g.R.Read.remaining in
    let sources = c.args.sources.items in
    let start = g.O.Output.told c.args.output.now in
    let put = first-put c.args.delimiter (boxed_tells known) boxed_copies (boxed_reading known) source_last (boxed_rises known) sources c.rows.merge.passed (heap_items c.rows.merge.heads) start c.args.block c.rows.block (g.O.Output.told c.rows.output)
    c.rows.invariant.put c.rows.invariant.lawful all text w in
    subst (λ o. GotFirst c.args.delimiter text (copied_rows (lists_of_inputs boxed_copies (boxed_reading known) sources)) start o) (sym (ap g.O.Output.told (c.put_block.ensures.unput e told))) put

pub returns-in-Err-next-clause-partly : goal.returns-in-Err-next-clause-partly
returns-in-Err-next-clause-partly g c = λ e told text w all.
    let known = g.R.Read.remaining in
    let sources = c.args.sources.items in
    let start = g.O.Output.told c.args.output.now in
    let put = first-put c.args.delimiter (boxed_tells known) boxed_copies (boxed_reading known) source_last (boxed_rises known) sources c.rows.merge.passed (heap_items c.rows.merge.heads) start c.args.block c.rows.block (g.O.Output.told c.rows.output)
    c.rows.invariant.put c.rows.invariant.lawful all text w in
    put

pub returns-in-Err-add_row-clause-partly : goal.returns-in-Err-add_row-clause-partly
returns-in-Err-add_row-clause-partly g c = λ e told text w all.
    let known = g.R.Read.remaining in
    let sources = c.args.sources.items in
    let start = g.O.Output.told c.args.output.now in
    let put = first-put c.args.delimiter (boxed_tells known) boxed_copies (boxed_reading known) source_last (boxed_rises known) sources c.rows.merge.passed (heap_items c.rows.merge.heads) start c.args.block c.rows.block (g.O.Output.told c.rows.output)
    c.rows.invariant.put c.rows.invariant.lawful all text w in
    subst (λ o. GotFirst c.args.delimiter text (copied_rows (lists_of_inputs boxed_copies (boxed_reading known) sources)) start o) (sym (ap g.O.Output.told (c.add_row.ensures.unput e (c.in-Err-add_row.is ∙ told)))) put

pub returns-clause-partly : goal.returns-clause-partly
returns-clause-partly g c = λ e told text w all.
    let known = g.R.Read.remaining in
    let sources = c.args.sources.items in
    let start = g.O.Output.told c.args.output.now in
    let put = first-put c.args.delimiter (boxed_tells known) boxed_copies (boxed_reading known) source_last (boxed_rises known) sources c.rows.merge.passed (heap_items c.rows.merge.heads) start c.args.block c.rows.block (g.O.Output.told c.rows.output)
    c.rows.invariant.put c.rows.invariant.lawful all text w in
    put

pub rows-preserved : goal.rows-preserved
rows-preserved g c =
    let start = g.O.Output.told c.args.output.now in
    record {
      lawful = rw c.reuse.ensures c.in-Ok-Some.ensures.lawful;
      put = rw c.reuse.ensures (put-more c.args.delimiter (boxed_tells g.R.Read.remaining) boxed_copies (boxed_reading g.R.Read.remaining) c.args.sources.items start c.args.block c.rows.merge.passed (heap_items c.rows.merge.heads) c.rows.block (g.O.Output.told c.rows.output) c.rows.invariant.put c.next.new.self.passed
          c.in-Ok-Some.placed (heap_items c.next.new.self.heads) c.add_row.new.block (g.O.Output.told c.add_row.new.output) c.in-Ok-Some.ensures.tells
          (λ t. rw c.in-Ok-Some.field-0-is at (c.in-Ok-Some.ensures.step t)) (λ text t. c.in-Ok-add_row.ensures.told start text t));
      among = rw c.reuse.ensures (λ numbers all. c.in-Ok-Some.ensures.among numbers (c.rows.invariant.among numbers all));
      count = c.in-Ok-add_row.ensures.count.1 (λ q. cc q) ∙ c.rows.invariant.count;
    }
