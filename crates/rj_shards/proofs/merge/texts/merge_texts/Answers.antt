use Rattle.std.proofs.Common.{◌++◌, ◌≡◌, inl, refl, subst, vec_len}
use Rattle.csv.specs.Records.{fields_of}
use Rattle.rj_csv_io.specs.Shown.{rows_text}
use Rattle.rj_csv_io.proofs.WriteFacts.{ok-holds}
use Rattle.rj_shards.specs.declared.merge.refused.MergeRefused.TheVariants as refused
use Rattle.rj_shards.specs.Inputs.{boxed_copies, boxed_reading, copies_of, is_input}
use Rattle.rj_shards.specs.MergedTexts.{head_rows, records_text}
use Rattle.rj_shards.specs.Sources.{TellsAmong}
use Rattle.rj_shards.specs.MergeTexts.{others}
use Rattle.rj_shards.proofs.HeapFacts.{copies-boxed, numbers-boxed, readings-boxed, tells-boxed}
use Rattle.rj_shards.proofs.MergedFacts.{fault_of_texts, faultless, merged, partly_merged}
use Rattle.rj_shards.proofs.WrittenFacts.{ok-if}
use Rattle.rj_shards.proofs.merge.texts.merge_texts.Goals as goal

pub returns-clause-merge : goal.returns-clause-merge
returns-clause-merge g c =
    let known = g.R.Read.remaining in
    let opened = c.in-Ok.ensures in
    let header = c.in-Ok.opened.header in
    let sources = c.in-Ok.opened.sources.items in
    let boxed = c.in-Ok-on_heap.sources.items in
    let same = c.in-Ok-on_heap.ensures in
    let copies = copies_of c.args.inputs.items in
    let head = rows_text c.args.how.now.delimiter (head_rows c.args.how.now.from (others header.columns (fields_of header.names))) in
    ok-if c.put_rows.result (λ well. λ texts tell.
    let put = ok-holds c.put_rows.result well c.put_rows.ensures.merge head c.in-Ok-begin_block.ensures (tells-boxed known boxed sources same (opened.tells texts tell)) in record {
      text = head ++ records_text c.args.how.now.delimiter put.0;
      merge = merged boxed_copies (boxed_reading known) c.args.how.now copies texts boxed (copies-boxed known boxed sources same copies opened.copies) (readings-boxed known boxed sources same _ (opened.readings texts tell))
          header.columns (fields_of header.names) put.0 (opened.header texts tell) opened.places put.1;
      got = put.2;
    })

pub returns-clause-faults : goal.returns-clause-faults
returns-clause-faults g c =
    let known = g.R.Read.remaining in
    let opened = c.in-Ok.ensures in
    let sources = c.in-Ok.opened.sources.items in
    let boxed = c.in-Ok-on_heap.sources.items in
    let same = c.in-Ok-on_heap.ensures in
    let copies = copies_of c.args.inputs.items in
    ok-if c.put_rows.result (λ well. λ texts tell.
    faultless boxed_copies (boxed_reading known) c.args.how.now copies texts boxed (copies-boxed known boxed sources same copies opened.copies) (readings-boxed known boxed sources same _ (opened.readings texts tell))
    (ok-holds c.put_rows.result well c.put_rows.ensures.faults (tells-boxed known boxed sources same (opened.tells texts tell))))

pub returns-clause-fault : goal.returns-clause-fault
returns-clause-fault g c = λ e refused texts tell.
    let known = g.R.Read.remaining in
    let opened = c.in-Ok.ensures in
    let sources = c.in-Ok.opened.sources.items in
    let boxed = c.in-Ok-on_heap.sources.items in
    let same = c.in-Ok-on_heap.ensures in
    let copies = copies_of c.args.inputs.items in
    fault_of_texts boxed_copies (boxed_reading known) c.args.how.now copies texts boxed (copies-boxed known boxed sources same copies opened.copies) (readings-boxed known boxed sources same _ (opened.readings texts tell)) e
    (c.put_rows.ensures.fault e refused (tells-boxed known boxed sources same (opened.tells texts tell)))

pub returns-in-Err-clause-first : goal.returns-in-Err-clause-first
returns-in-Err-clause-first g c = λ texts tell f is. (
  c.in-Err.e,
  refl,
  λ out. let told = c.in-Err.ensures.first out texts tell in let same : c.in-Err.e ≡ f = cc in same,
)

pub returns-in_default-clause-first : goal.returns-in_default-clause-first
returns-in_default-clause-first g c = λ texts tell f is. let none = c.in-Ok.ensures.headers texts tell in absurd (cc)

pub returns-clause-first : goal.returns-clause-first
returns-clause-first g c = λ texts tell f is. let none = c.in-Ok.ensures.headers texts tell in absurd (cc)

pub returns-in_default-on_heap-clause-first : goal.returns-in_default-on_heap-clause-first
returns-in_default-on_heap-clause-first g c = λ texts tell f is. let none = c.in-Ok.ensures.headers texts tell in absurd (cc)

pub returns-in_default-clause-untouched : goal.returns-in_default-clause-untouched
returns-in_default-clause-untouched g c = λ texts tell f is. let none = c.in-Ok.ensures.headers texts tell in absurd (cc)

pub returns-clause-untouched : goal.returns-clause-untouched
returns-clause-untouched g c = λ texts tell f is. let none = c.in-Ok.ensures.headers texts tell in absurd (cc)

pub returns-in_default-on_heap-clause-untouched : goal.returns-in_default-on_heap-clause-untouched
returns-in_default-on_heap-clause-untouched g c = λ texts tell f is. let none = c.in-Ok.ensures.headers texts tell in absurd (cc)

pub returns-in-Err-clause-partly : goal.returns-in-Err-clause-partly
returns-in-Err-clause-partly g c = λ e is texts tell. inl refl

pub returns-in_default-clause-partly : goal.returns-in_default-clause-partly
returns-in_default-clause-partly g c = λ e is texts tell. inl refl

pub returns-in_default-on_heap-clause-partly : goal.returns-in_default-on_heap-clause-partly
returns-in_default-on_heap-clause-partly g c = λ e is texts tell. inl refl

pub returns-clause-partly : goal.returns-clause-partly
returns-clause-partly g c = λ e is texts tell.
    let known = g.R.Read.remaining in
    let opened = c.in-Ok.ensures in
    let header = c.in-Ok.opened.header in
    let sources = c.in-Ok.opened.sources.items in
    let boxed = c.in-Ok-on_heap.sources.items in
    let same = c.in-Ok-on_heap.ensures in
    let copies = copies_of c.args.inputs.items in
    let head = rows_text c.args.how.now.delimiter (head_rows c.args.how.now.from (others header.columns (fields_of header.names))) in
    partly_merged boxed_copies (boxed_reading known) c.args.how.now copies texts boxed (copies-boxed known boxed sources same copies opened.copies) (readings-boxed known boxed sources same _ (opened.readings texts tell))
    header.columns (fields_of header.names) (g.O.Output.told c.args.output.now) (g.O.Output.told c.put_rows.new.output) (opened.header texts tell) opened.places
    (c.put_rows.ensures.partly e is head c.in-Ok-begin_block.ensures (tells-boxed known boxed sources same (opened.tells texts tell)))

pub returns-in-Err-clause-input : goal.returns-in-Err-clause-input
returns-in-Err-clause-input g c = λ e told. let same : c.in-Err.e ≡ e = cc in subst (TellsAmong (is_input (vec_len c.args.inputs))) same c.in-Err.ensures.told

pub returns-in_default-clause-input : goal.returns-in_default-clause-input
returns-in_default-clause-input g c = λ e told. let same : refused.Memory ≡ e = cc in subst (TellsAmong (is_input (vec_len c.args.inputs))) same tt

pub returns-in_default-on_heap-clause-input : goal.returns-in_default-on_heap-clause-input
returns-in_default-on_heap-clause-input g c = λ e told. let same : refused.Memory ≡ e = cc in subst (TellsAmong (is_input (vec_len c.args.inputs))) same tt

pub returns-clause-input : goal.returns-clause-input
returns-clause-input g c = λ e told.
    let numbers = is_input (vec_len c.args.inputs) in
    c.put_rows.ensures.input e told numbers (numbers-boxed g.R.Read.remaining c.in-Ok-on_heap.sources.items c.in-Ok.opened.sources.items c.in-Ok-on_heap.ensures numbers c.in-Ok.ensures.numbers)
