-- Texts that stand one after another.
use Rattle.std.specs.Prelude.{ℕ, ◌+◌, ◌≡◌, ◌<◌, List, [], ◌∷◌, ◌++◌, length, take, get_or, Some}
use Rattle.std.specs.List.{concat}
use Rattle.std.proofs.Common.{sym, ap, ◌∙◌, append_assoc, append-nil}
use Rattle.std.proofs.lemmas.List.{take_more}
use Rattle.std.proofs.lemmas.List.Folds.{concat-append}
use Rattle.rj_csv_io.specs.Internal.StrictWalk.{walk}
use Rattle.rj_csv_io.specs.declared.strict.standing.Place.{Place}
use Rattle.rj_csv_io.specs.declared.strict.standing.Place.TheVariants as place
use Rattle.rj_csv_io.proofs.CleanFacts.{over-part}

concat-one : (text : List ℕ) → concat (text ∷ []) ≡ text
concat-one text = append-nil text

-- one more text
pub concat-more : (texts : List (List ℕ)) (text : List ℕ) → concat (texts ++ text ∷ []) ≡ concat texts ++ text
concat-more texts text = concat-append texts (text ∷ []) ∙ ap (λ (t : List ℕ). concat texts ++ t) (concat-one text)

-- a text is cut in two
pub concat-cut : (texts : List (List ℕ)) (text part more : List ℕ) → text ≡ part ++ more → concat (texts ++ part ∷ []) ++ more ≡ concat texts ++ text
concat-cut texts text part more e =
    ap (λ (t : List ℕ). t ++ more) (concat-more texts part) ∙ append_assoc (concat texts) part more ∙ ap (λ (t : List ℕ). concat texts ++ t) (sym e)

-- over one text more, where those before it end with a line
pub over-text : (d : ℕ) (texts : List (List ℕ)) (i : ℕ) (q : Place) → i < length texts → walk d place.Start (concat (take i texts)) ≡ Some place.Start
    → walk d place.Start (get_or texts i []) ≡ Some q → walk d place.Start (concat (take (i + 1) texts)) ≡ Some q
over-text d texts i q h e f =
    let whole = ap concat (take_more texts i [] h) ∙ concat-more (take i texts) (get_or texts i []) in
    over-part d place.Start place.Start _ (concat (take i texts)) (get_or texts i []) whole e ∙ f
