use Rattle.std.proofs.Common.{sym, ap, ◌∙◌, ◌≡◌, length, Some}
use Rattle.std.proofs.lemmas.Bool.{eqb-true}
use Rattle.rj_csv_io.specs.Internal.StrictWalk.{place_after, walk}
use Rattle.rj_csv_io.specs.declared.strict.standing.Place.{Place}
use Rattle.rj_csv_io.specs.declared.strict.standing.Place.TheVariants as place
use Rattle.rj_csv_io.proofs.Lawful.{lawful-is}
use Rattle.rj_csv_io.proofs.Slices.{some-then}
use Rattle.rj_csv_io.proofs.WalkFacts.{open-walk, all-plain, after-delimiter, after-letter}
use Rattle.rj_csv_io.proofs.CleanFacts.{walk-empty, closed-head, not-empty}
use Rattle.rj_csv_io.proofs.strict.clean.stretch.Goals as goal

pub returns-then-is_empty : goal.returns-then-is_empty
returns-then-is_empty c = walk-empty c.args.delimiter c.args.place c.args.text.now (eqb-true (length c.args.text.now) 0 (sym c.is_empty.ensures ∙ c.if-is_empty.true))

pub returns-in-Fresh : goal.returns-in-Fresh
returns-in-Fresh c =
    let d = c.args.delimiter in
    let text = c.args.text.now in
    let at : place_after d d ≡ place.Fresh = after-delimiter d (lawful-is d c.requires.lawful) in
    some-then c.follow-in-Fresh.result (λ (p : Place). walk d (place_after d d) text ≡ Some p) (λ (p : Place). walk d c.args.place text ≡ Some p)
    (λ p e. ap (λ (q : Place). walk d q text) (c.in-Fresh.is ∙ sym at) ∙ e) c.follow-in-Fresh.ensures

pub returns-in-Inside : goal.returns-in-Inside
returns-in-Inside c =
    let d = c.args.delimiter in
    let text = c.args.text.now in
    let at : place_after d 97 ≡ place.Inside = after-letter d (lawful-is d c.requires.lawful) in
    some-then c.follow-in-Inside.result (λ (p : Place). walk d (place_after d 97) text ≡ Some p) (λ (p : Place). walk d c.args.place text ≡ Some p)
    (λ p e. ap (λ (q : Place). walk d q text) (c.in-Inside.is ∙ sym at) ∙ e) c.follow-in-Inside.ensures

pub returns-then-byte-delimiter : goal.returns-then-byte-delimiter
returns-then-byte-delimiter c =
    let d = c.args.delimiter in
    let text = c.args.text.now in
    let some = sym c.is_empty.ensures ∙ c.if-is_empty.false in
    let at : place_after d 97 ≡ place.Inside = after-letter d (lawful-is d c.requires.lawful) in
    let head = closed-head d text some (c.requires.quotes 0 (not-empty text some)) c.if-byte-delimiter.true in
    some-then c.follow-then-byte-delimiter.result (λ (p : Place). walk d (place_after d 97) text ≡ Some p) (λ (p : Place). walk d c.args.place text ≡ Some p)
    (λ p e. ap (λ (q : Place). walk d q text) c.in-Closed.is ∙ head ∙ ap (λ (q : Place). walk d q text) (sym at) ∙ e) c.follow-then-byte-delimiter.ensures

pub returns-in-Open : goal.returns-in-Open
returns-in-Open c = ap (λ (q : Place). walk c.args.delimiter q c.args.text.now) c.in-Open.is ∙ open-walk c.args.delimiter c.args.text.now (all-plain c.args.text.now c.requires.quotes)
