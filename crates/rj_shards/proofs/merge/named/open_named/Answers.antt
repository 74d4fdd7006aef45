use Rattle.std.proofs.Common.{◌≡◌, ◌<◌, ◌+◌, ℕ, List, map, take, length, true, Bor, ap, arith, rules, subst, sym, ◌∙◌, refl}
use Rattle.std.specs.Result.{is_ok}
use Rattle.std.proofs.lemmas.List.{length-map, take-map}
use Rattle.rj_shards.specs.Inputs.{copies_of}
use Rattle.rj_shards.specs.Named.{AreOpened}
use Rattle.rj_shards.proofs.NamedFacts.{copies_step, opened_before, opened_step, shut_here, unopened_here}
use Rattle.rj_shards.proofs.merge.named.open_named.Goals as goal

pub returns-in-Err-clause-shut : goal.returns-in-Err-clause-shut
returns-in-Err-clause-shut g c =
    shut_here (g.P.Opener.shut c.args.opener.now) c.args.names.now c.names.i c.names.number _ c.fault_of_open.result c.names-test.true c.names.invariant.number c.in-Err.ensures.shut c.fault_of_open.ensures.either

pub names-preserved : goal.names-preserved
names-preserved g c =
    let good : is_ok c.push.result ≡ true = search rules in
    let pushed = rw good at c.push.ensures.items in
    let here : c.names.i < length c.args.names.now = c.names-test.true in
    let opens = g.P.Opener.opens c.args.opener.now in
    record {
      opened = subst (λ l. AreOpened opens (map (λ (n : Bor (List ℕ)). n.now) (take (c.names.i + 1) c.args.names.now)) l) (sym pushed)
          (opened_step opens c.args.names.now c.names.i _ c.names.inputs.items _ c.in-Ok.reader here c.names.invariant.opened c.new-reader.ensures c.in-Ok.ensures.opens);
      copies = ap copies_of pushed ∙ copies_step c.args.copies.now c.names.i _ c.names.inputs.items _ (omega (arith, c.requires.copies, here)) c.names.invariant.copies refl;
      number = ap (λ n. n + 1) c.names.invariant.number;
    }

pub returns-in-Err-clause-unopened : goal.returns-in-Err-clause-unopened
returns-in-Err-clause-unopened g c = λ i none.
    let opens = g.P.Opener.opens c.args.opener.now in
    let shut = g.P.Opener.shut c.args.opener.now in
    let names : List (List ℕ) = map (λ n. n.now) c.args.names.now in
    let taken = subst (λ l. AreOpened opens l c.names.inputs.items) (sym (take-map (λ (n : Bor (List ℕ)). n.now) c.names.i c.args.names.now)) c.names.invariant.opened in
    let behind = opened_before opens names c.names.i i c.names.inputs.items taken none in
    let is = shut_here shut c.args.names.now c.names.i c.names.number _ c.fault_of_open.result c.names-test.true c.names.invariant.number c.in-Err.ensures.shut c.fault_of_open.ensures.either in
    (c.fault_of_open.result, refl, unopened_here shut names (c.names.number + 1) c.fault_of_open.result c.fault_of_open.ensures.either is i (omega (arith, c.names.invariant.number, behind)))

pub returns-clause-unopened : goal.returns-clause-unopened
returns-clause-unopened g c = λ i none.
    let opens = g.P.Opener.opens c.args.opener.now in
    let names : List (List ℕ) = map (λ n. n.now) c.args.names.now in
    let taken = subst (λ l. AreOpened opens l c.names.inputs.items) (sym (take-map (λ (n : Bor (List ℕ)). n.now) c.names.i c.args.names.now)) c.names.invariant.opened in
    let behind = opened_before opens names c.names.i i c.names.inputs.items taken none in
    let size = length-map c.args.names.now (λ (n : Bor (List ℕ)). n.now) in
    let high = none.last in
    absurd (omega (arith, behind, high, size, c.names-test.false))
