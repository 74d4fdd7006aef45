use Rattle.std.proofs.Common.{◌≡◌, ◌∙◌, ◌++◌, ◌+◌, ◌∷◌, [], All, map, true, sym, ap, subst, arith, rules, vec_len}
use Rattle.std.proofs.lemmas.List.Elements.{All-cons, All-nil, All-push}
use Rattle.std.specs.Result.{is_ok}
use Rattle.std.specs.Vec.Iter.{into_iter_items}
use Rattle.csv.specs.Records.{fields_of}
use Rattle.rj_shards.specs.Inputs.{copies_of, is_input, own_copies, own_number}
use Rattle.rj_shards.proofs.OpeningFacts.{HasOpened, copies-all, copies-next, fault-first, fault-next, headed-all, heads-first, heads-next, no_length, opened-all, opened-first, opened-next}
use Rattle.rj_shards.proofs.ToldFacts.{input_within, told_among}
use Rattle.rj_shards.proofs.merge.opening.open_all.Goals as goal

pub returns-in-Err-clause-fault : goal.returns-in-Err-clause-fault
returns-in-Err-clause-fault g c = λ out texts tell.
    fault-first g.R.Read.remaining c.args.how.now c.args.inputs.items c.in-Some.first (into_iter_items c.next.new.self) texts (sym c.into_iter-left.ensures.rest ∙ c.in-Some.ensures.items) tell c.in-Err.e (λ text here. c.in-Err.ensures.fault out text here)

pub inputs-init : goal.inputs-init
inputs-init g c =
    let left = into_iter_items c.next.new.self in
    let source = c.in-Ok.first.source in
    let names = fields_of c.in-Ok.first.header.names in
    let good : is_ok c.push.result ≡ true = search rules in
    let pushed = (rw good at c.push.ensures.items) ∙ ap (λ l. l ++ source ∷ []) c.new-sources.ensures.items in
    record {
      count = omega (arith, c.in-Some.ensures.cases.1, c.into_iter-left.ensures.len, c.requires.count);
      all = omega (arith, c.in-Some.ensures.cases.1, c.into_iter-left.ensures.len);
      low = omega arith;
      numbers = subst (All (λ s. is_input (vec_len c.args.inputs) (own_number s) ≡ true)) (sym pushed)
          (All-cons (λ s. is_input (vec_len c.args.inputs) (own_number s) ≡ true) source []
          (subst (λ n. is_input (vec_len c.args.inputs) n ≡ true) (sym c.in-Ok.ensures.number) (input_within (vec_len c.args.inputs) 1 (omega arith) (omega (arith, c.requires.some))))
          (All-nil (λ s. is_input (vec_len c.args.inputs) (own_number s) ≡ true)));
      copies = ap (λ l. map own_copies l ++ copies_of left) pushed ∙ ap (λ k. k ∷ copies_of left) c.in-Ok.ensures.copies
          ∙ sym (ap copies_of (sym c.into_iter-left.ensures.rest ∙ c.in-Some.ensures.items));
      opened = λ texts tell.
          subst (λ l. HasOpened g.R.Read.remaining c.args.how.now texts names l 1 left) (sym pushed)
          (opened-first g.R.Read.remaining c.args.how.now c.args.inputs.items c.in-Some.first left texts (sym c.into_iter-left.ensures.rest ∙ c.in-Some.ensures.items) tell names source
          (λ text here. c.in-Ok.ensures.header text here) (λ text here. c.in-Ok.ensures.input text here) (λ text here. c.in-Ok.ensures.headed text here));
    }

pub returns-in-Err-open_next-clause-fault : goal.returns-in-Err-open_next-clause-fault
returns-in-Err-open_next-clause-fault g c = λ out texts tell.
    fault-next g.R.Read.remaining c.args.how.now texts (fields_of c.in-Ok.first.header.names) c.inputs.sources.items c.inputs.input (into_iter_items c.inputs.left) (into_iter_items c.next-in-inputs.new.self) c.in-Some-next.next
    (c.inputs.invariant.opened texts tell) c.in-Some-next.ensures.items c.in-Err-open_next.e (λ text here. c.in-Err-open_next.ensures.fault out text here)

pub inputs-preserved : goal.inputs-preserved
inputs-preserved g c =
    let more = into_iter_items c.next-in-inputs.new.self in
    let source = c.in-Ok-open_next.source in
    let names = fields_of c.in-Ok.first.header.names in
    let good : is_ok c.push-in-Some-next.result ≡ true = search rules in
    let pushed = rw good at c.push-in-Some-next.ensures.items in
    record {
      count = omega (arith, c.in-Some-next.ensures.cases.1, c.inputs.invariant.count);
      all = omega (arith, c.in-Some-next.ensures.cases.1, c.inputs.invariant.all);
      low = omega (arith, c.inputs.invariant.low);
      numbers = subst (All (λ s. is_input (vec_len c.args.inputs) (own_number s) ≡ true)) (sym pushed)
          (All-push (λ s. is_input (vec_len c.args.inputs) (own_number s) ≡ true) c.inputs.sources.items source c.inputs.invariant.numbers
          (subst (λ n. is_input (vec_len c.args.inputs) n ≡ true) (sym c.in-Ok-open_next.ensures.number)
          (input_within (vec_len c.args.inputs) (c.inputs.input + 1) (omega arith) (omega (arith, c.in-Some-next.ensures.cases.1, c.inputs.invariant.all)))));
      copies = ap (λ l. map own_copies l ++ copies_of more) pushed
          ∙ copies-next c.inputs.sources.items (into_iter_items c.inputs.left) (copies_of c.args.inputs.items) c.inputs.invariant.copies source c.in-Some-next.next more c.in-Some-next.ensures.items c.in-Ok-open_next.ensures.copies;
      opened = λ texts tell.
          subst (λ l. HasOpened g.R.Read.remaining c.args.how.now texts names l (c.inputs.input + 1) more) (sym pushed)
          (opened-next g.R.Read.remaining c.args.how.now texts names c.inputs.sources.items c.inputs.input (into_iter_items c.inputs.left) more c.in-Some-next.next (c.inputs.invariant.opened texts tell)
          c.in-Some-next.ensures.items source (λ text here. c.in-Ok-open_next.ensures.input text here)
          (λ text here. c.in-Ok-open_next.ensures.headed text here));
    }

pub returns-clause-copies : goal.returns-clause-copies
returns-clause-copies g c =
    let left = into_iter_items c.inputs.left in
    copies-all c.inputs.sources.items left (copies_of c.args.inputs.items) c.inputs.invariant.copies (no_length left (sym c.inputs.left.rest.ok.0 ∙ c.in_default-next.ensures.cases.0))

pub returns-clause-readings : goal.returns-clause-readings
returns-clause-readings g c = λ texts tell.
    let left = into_iter_items c.inputs.left in
    let none = no_length left (sym c.inputs.left.rest.ok.0 ∙ c.in_default-next.ensures.cases.0) in
    opened-all g.R.Read.remaining c.args.how.now texts (fields_of c.in-Ok.first.header.names) c.inputs.sources.items c.inputs.input left (c.inputs.invariant.opened texts tell) none

pub returns-clause-tells : goal.returns-clause-tells
returns-clause-tells g c = λ texts tell. (c.inputs.invariant.opened texts tell).tells

pub returns-in-Err-clause-first : goal.returns-in-Err-clause-first
returns-in-Err-clause-first g c = λ out texts tell.
    heads-first g.R.Read.remaining c.args.how.now c.args.inputs.items c.in-Some.first (into_iter_items c.next.new.self) texts (sym c.into_iter-left.ensures.rest ∙ c.in-Some.ensures.items) tell c.in-Err.e
    (λ text here. c.in-Err.ensures.unheaded out text here)

pub returns-in-Err-open_next-clause-first : goal.returns-in-Err-open_next-clause-first
returns-in-Err-open_next-clause-first g c = λ out texts tell.
    heads-next g.R.Read.remaining c.args.how.now texts (fields_of c.in-Ok.first.header.names) c.inputs.sources.items c.inputs.input (into_iter_items c.inputs.left) (into_iter_items c.next-in-inputs.new.self) c.in-Some-next.next
    (c.inputs.invariant.opened texts tell) c.in-Some-next.ensures.items c.in-Err-open_next.e (λ text here. c.in-Err-open_next.ensures.unheaded out text here)

pub returns-clause-headers : goal.returns-clause-headers
returns-clause-headers g c = λ texts tell.
    let left = into_iter_items c.inputs.left in
    let none = no_length left (sym c.inputs.left.rest.ok.0 ∙ c.in_default-next.ensures.cases.0) in
    headed-all g.R.Read.remaining c.args.how.now texts (fields_of c.in-Ok.first.header.names) c.inputs.sources.items c.inputs.input left (c.inputs.invariant.opened texts tell) none

pub returns-in-Err-clause-told : goal.returns-in-Err-clause-told
returns-in-Err-clause-told g c =
    let count = vec_len c.args.inputs in
    told_among (is_input count) 1 c.in-Err.e c.in-Err.ensures.told (input_within count 1 (omega arith) (omega (arith, c.requires.some)))

pub returns-in-Err-open_next-clause-told : goal.returns-in-Err-open_next-clause-told
returns-in-Err-open_next-clause-told g c =
    let count = vec_len c.args.inputs in
    told_among (is_input count) (c.inputs.input + 1) c.in-Err-open_next.e c.in-Err-open_next.ensures.told
    (input_within count (c.inputs.input + 1) (omega arith) (omega (arith, c.in-Some-next.ensures.cases.1, c.inputs.invariant.all)))
