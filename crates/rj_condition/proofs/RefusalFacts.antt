-- Columns that tokens name.
use Rattle.std.proofs.Common.{◌≡◌, ◌+◌, ◌<◌, ℕ, suc, List, Bool, true, false, Some, None, option_map, take, length, refl, sym, ap, ◌∙◌, slice_get, inl, inr}
use Rattle.std.specs.Prelude.{is_some}
use Rattle.std.proofs.lemmas.Bool.{false≢true}
use Rattle.rj_condition.specs.declared.refused.BindRefused.{BindRefused}
use Rattle.rj_condition.specs.declared.token.Token.{Token}
use Rattle.rj_condition.specs.declared.tree.Name.{Name}
use Rattle.rj_condition.specs.Names.{place}
use Rattle.std.specs.List.{list_any}
use Rattle.std.proofs.lemmas.Option.{slice_get_cases}
use Rattle.rj_condition.specs.declared.refusals.RefusedColumn.{RefusedColumn}
use Rattle.rj_condition.specs.Refusals.{BeginAt, IsToldOf, is_using, nothing, blank, next, unreadable, column_at, is_point, name_of, qualifier_at, reference_refusal, refusal_at, using_refusal}

pub names_column : (ts : List Token) (i : ℕ) (n : Name) → is_point (slice_get ts (i + 1)) ≡ false → name_of (slice_get ts i) ≡ Some n
    → column_at ts i ≡ Some record { qualifier = qualifier_at ts i; name = n }
names_column ts i n h g = rw (h, g) refl

pub using_at : (left right : List (List ℕ)) (ts : List Token) (i : ℕ) (n : Name) → column_at ts i ≡ Some record { qualifier = qualifier_at ts i; name = n }
    → refusal_at true left right ts i ≡ using_refusal left (take i ts) (place left n) (place right n)
using_at left right ts i n e = rw e refl

pub reference_at : (left right : List (List ℕ)) (ts : List Token) (i : ℕ) (n : Name) → column_at ts i ≡ Some record { qualifier = qualifier_at ts i; name = n }
    → refusal_at false left right ts i ≡ reference_refusal left right record { qualifier = qualifier_at ts i; name = n }
reference_at left right ts i n e = rw e refl

-- a token that is refused names a column
pub refused_named : (using : Bool) (left right : List (List ℕ)) (ts : List Token) (i : ℕ) (e : BindRefused) (n : Name) → refusal_at using left right ts i ≡ Some e
    → name_of (slice_get ts i) ≡ Some n → column_at ts i ≡ Some record { qualifier = qualifier_at ts i; name = n }
refused_named using left right ts i e n r g = go (is_point (slice_get ts (i + 1))) refl
  where
    go : (b : Bool) → is_point (slice_get ts (i + 1)) ≡ b → column_at ts i ≡ Some record { qualifier = qualifier_at ts i; name = n }
    go true h = let none = rw h at r in absurd (false≢true (ap is_some none))
    go false h = rw (h, g) refl

pub named_within : (ts : List Token) (i : ℕ) (n : Name) → name_of (slice_get ts i) ≡ Some n → i < length ts
named_within ts i n e = elim (slice_get_cases ts i).1 [
  | inl h ↦ h.1
  | inr h ↦ absurd (false≢true (ap is_some (sym (ap name_of h.1) ∙ e)))
]

-- what is found is told
pub told : (left right : List (List ℕ)) (ts : List Token) (starts : List ℕ) (i : ℕ) (e : BindRefused) (n : Name) (found : RefusedColumn)
    → (refusal_at (list_any is_using ts) left right ts i ≡ Some e) × ((k : ℕ) → k < i → refusal_at (list_any is_using ts) left right ts k ≡ None)
    → name_of (slice_get ts i) ≡ Some n → found.refused ≡ e → slice_get starts i ≡ Some found.at → found.name ≡ n.text
    → found.qualifier ≡ option_map (λ (q : Name). q.text) (qualifier_at ts i) → IsToldOf left right ts starts found
told left right ts starts i e n found first named why at name qualifier =
    let column = refused_named (list_any is_using ts) left right ts i e n first.0 named in
    let refused = rw column at first.0 in
    record {
      place = i;
      column = record { qualifier = qualifier_at ts i; name = n };
      first = record { names = column; refused = rw why refused; first = first.1 };
      at = at;
      name = name;
      qualifier = qualifier;
    }

-- each token has a byte
pub begin_each : (text bytes : List ℕ) (ts : List Token) (starts : List ℕ) → BeginAt text bytes ts starts → length starts ≡ length ts
begin_each text bytes ts starts nothing = refl
begin_each text bytes ts starts (blank b bs _ _ h l) = begin_each text bs ts starts l
begin_each text bytes ts starts (next _ t rest us rs h l) = ap suc (begin_each text rest us rs l)
begin_each text bytes ts starts (unreadable _ h) = refl
