use Rattle.std.proofs.Common.{◌≡◌, inl, length, map, refl, subst, sym}
use Rattle.rj_shards.specs.Inputs.{is_input}
use Rattle.rj_shards.specs.MergedTexts.{GotMerge, IsFaultOfTexts, IsPartlyMerged}
use Rattle.rj_shards.specs.Named.{IsOpenFault}
use Rattle.rj_shards.specs.Sources.{TellsAmong}
use Rattle.rj_shards.proofs.NamedFacts.{opened_tell, opens_each, shut_among}
use Rattle.rj_shards.proofs.merge.named.merge_named.Goals as goal

pub returns-in-Err-clause-input : goal.returns-in-Err-clause-input
returns-in-Err-clause-input g c = λ e told.
    let same : c.in-Err.e ≡ e = cc in
    subst (TellsAmong (is_input (length c.args.names.now))) same (shut_among (g.P.Opener.shut c.args.opener.now) c.args.names.now c.in-Err.e c.in-Err.ensures.outside c.in-Err.ensures.shut)

pub returns-in-Ok-merge_texts-clause-merge : goal.returns-in-Ok-merge_texts-clause-merge
returns-in-Ok-merge_texts-clause-merge g c = λ texts told.
    subst (λ k. GotMerge c.args.how.now k texts (g.O.Output.told c.args.output.now) (g.O.Output.told c.merge_texts.new.output)) c.in-Ok.ensures.copies
    (c.in-Ok-merge_texts.ensures.merge texts (opened_tell (g.P.Opener.opens c.args.opener.now) g.P.Reader.Read.remaining _ texts c.in-Ok.inputs.items c.in-Ok.ensures.opened told))

pub returns-in-Ok-merge_texts-clause-faults : goal.returns-in-Ok-merge_texts-clause-faults
returns-in-Ok-merge_texts-clause-faults g c = λ texts told.
    c.in-Ok-merge_texts.ensures.faults texts (opened_tell (g.P.Opener.opens c.args.opener.now) g.P.Reader.Read.remaining _ texts c.in-Ok.inputs.items c.in-Ok.ensures.opened told)

pub returns-in-Ok-merge_texts-clause-first : goal.returns-in-Ok-merge_texts-clause-first
returns-in-Ok-merge_texts-clause-first g c = λ texts told.
    c.in-Ok-merge_texts.ensures.first texts (opened_tell (g.P.Opener.opens c.args.opener.now) g.P.Reader.Read.remaining _ texts c.in-Ok.inputs.items c.in-Ok.ensures.opened told)

pub returns-in-Err-merge_texts-clause-fault : goal.returns-in-Err-merge_texts-clause-fault
returns-in-Err-merge_texts-clause-fault g c = λ e refused texts told.
    subst (λ k. IsFaultOfTexts c.args.how.now k texts e) c.in-Ok.ensures.copies
    (c.in-Err-merge_texts.ensures.fault e refused texts (opened_tell (g.P.Opener.opens c.args.opener.now) g.P.Reader.Read.remaining _ texts c.in-Ok.inputs.items c.in-Ok.ensures.opened told))

pub returns-in-Err-merge_texts-clause-first : goal.returns-in-Err-merge_texts-clause-first
returns-in-Err-merge_texts-clause-first g c = λ texts told.
    c.in-Err-merge_texts.ensures.first texts (opened_tell (g.P.Opener.opens c.args.opener.now) g.P.Reader.Read.remaining _ texts c.in-Ok.inputs.items c.in-Ok.ensures.opened told)

pub returns-in-Ok-merge_texts-clause-untouched : goal.returns-in-Ok-merge_texts-clause-untouched
returns-in-Ok-merge_texts-clause-untouched g c = λ texts told.
    c.in-Ok-merge_texts.ensures.untouched texts (opened_tell (g.P.Opener.opens c.args.opener.now) g.P.Reader.Read.remaining _ texts c.in-Ok.inputs.items c.in-Ok.ensures.opened told)

pub returns-in-Err-merge_texts-clause-untouched : goal.returns-in-Err-merge_texts-clause-untouched
returns-in-Err-merge_texts-clause-untouched g c = λ texts told.
    c.in-Err-merge_texts.ensures.untouched texts (opened_tell (g.P.Opener.opens c.args.opener.now) g.P.Reader.Read.remaining _ texts c.in-Ok.inputs.items c.in-Ok.ensures.opened told)

pub returns-in-Err-clause-partly : goal.returns-in-Err-clause-partly
returns-in-Err-clause-partly g c = λ e is texts told. inl refl

pub returns-in-Err-merge_texts-clause-partly : goal.returns-in-Err-merge_texts-clause-partly
returns-in-Err-merge_texts-clause-partly g c = λ e is texts told.
    subst (λ k. IsPartlyMerged c.args.how.now k texts (g.O.Output.told c.args.output.now) (g.O.Output.told c.merge_texts.new.output)) c.in-Ok.ensures.copies
    (c.in-Err-merge_texts.ensures.partly e is texts (opened_tell (g.P.Opener.opens c.args.opener.now) g.P.Reader.Read.remaining _ texts c.in-Ok.inputs.items c.in-Ok.ensures.opened told))

pub returns-in-Err-clause-unopened : goal.returns-in-Err-clause-unopened
returns-in-Err-clause-unopened g c = λ i none.
    let found = c.in-Err.ensures.unopened i none in
    let same : c.in-Err.e ≡ found.0 = cc in
    (refl, (c.in-Err.e, refl, subst (IsOpenFault (g.P.Opener.shut c.args.opener.now) (map (λ n. n.now) c.args.names.now) i) (sym same) found.2))

pub returns-in-Ok-merge_texts-clause-unopened : goal.returns-in-Ok-merge_texts-clause-unopened
returns-in-Ok-merge_texts-clause-unopened g c = λ i none. absurd (opens_each (g.P.Opener.opens c.args.opener.now) (map (λ n. n.now) c.args.names.now) c.in-Ok.inputs.items i c.in-Ok.ensures.opened none)

pub returns-in-Err-merge_texts-clause-unopened : goal.returns-in-Err-merge_texts-clause-unopened
returns-in-Err-merge_texts-clause-unopened g c = λ i none. absurd (opens_each (g.P.Opener.opens c.args.opener.now) (map (λ n. n.now) c.args.names.now) c.in-Ok.inputs.items i c.in-Ok.ensures.opened none)
