-- Texts whose first bytes are taken away.
use Rattle.std.proofs.Common.{◌≡◌, ◌<◌, ◌≤◌, ◌+◌, ◌⊎◌, ℕ, List, [], ◌++◌, Option, Some, None, refl, sym, ap, subst, ◌∙◌, arith, append_assoc, length, take, drop}
use Rattle.std.specs.Io.KnownBytes.{Consumes, IsAtEnd}
use Rattle.std.proofs.lemmas.List.{length-append, length-drop, length-take-le, take-append-drop}
use Rattle.rj_csv_io.specs.Pieces.{IsLineEnd}
use Rattle.rj_shards.specs.Ranges.{IsPiece, IsReadFor}
use Rattle.rj_shards.specs.Internal.Taken.{IsTaken}
use Rattle.rj_shards.proofs.ShortFacts.{line-back, line-rest, read-bound}

-- nothing is taken away yet
abbrev pub taken-none : (d : ℕ) (text bytes : List ℕ) (tells : Option (List ℕ)) → tells ≡ Some text → bytes ≡ [] → IsTaken d text tells bytes 0
taken-none d text bytes tells told none =
    let all : bytes ++ text ≡ text = ap (λ l. l ++ text) none in
    record {
      left = text;
      told = told;
      taken = [];
      order = sym all;
      none = λ at h e. let few = ap length none in absurd (omega (arith, few, h, e.behind));
      shorter = let size = ap length all in omega (arith, size);
    }

-- what a device tells after more was read
pub record Told (bytes left now : List ℕ) (tells : Option (List ℕ)) : Type 0 where
  pub more : List ℕ
  pub told : tells ≡ Some more
  pub same : bytes ++ left ≡ now ++ more

module _ (d : ℕ) (text old bytes : List ℕ) (before tells : Option (List ℕ)) (pieces : ℕ) (u : IsTaken d text before old pieces)
    (reads : (start : Option (List ℕ)) → Consumes start before old → Consumes start tells bytes) where
  pub told-now : Told old u.left bytes tells
  told-now = go tells refl (reads (Some (old ++ u.left)) (rw u.told refl))
    where
      go : (t : Option (List ℕ)) → tells ≡ t → Consumes (Some (old ++ u.left)) t bytes → Told old u.left bytes tells
      go None is h = absurd h
      go (Some more) is h = record { more = more; told = is; same = h }

  abbrev more : List ℕ
  more = told-now.more

  pub order-now : text ≡ u.taken ++ (bytes ++ more)
  order-now = u.order ∙ ap (λ l. u.taken ++ l) told-now.same

  -- at the end nothing is left behind the bytes that were read
  pub none-more : IsAtEnd tells → more ≡ []
  none-more ended = rw told-now.told at ended

  -- the text, cut behind a piece
  pub order-cut : (end : ℕ) → text ≡ u.taken ++ (take end bytes ++ (drop end bytes ++ more))
  order-cut end =
      order-now ∙ ap (λ l. u.taken ++ l) (ap (λ l. l ++ more) (sym (take-append-drop end bytes)) ∙ append_assoc (take end bytes) (drop end bytes) more)

  -- the bytes up to a line end, or all of them, are a piece of the text
  pub piece-read : (block end : ℕ) → IsReadFor d block old bytes → end ≤ length bytes → (end ≡ length bytes) ⊎ IsLineEnd d bytes end → IsPiece d block text (take end bytes)
  piece-read block end read within stops =
      let found = read-bound d block old bytes read u.none end stops in
      let size = length-take-le end bytes within in
      record {
        above = u.taken;
        below = drop end bytes ++ more;
        order = order-cut end;
        plain = found.0;
        within = omega (arith, found.1, size);
        none = λ at low line. found.2 at low (line-back d bytes end at (omega (arith, low, found.1)) line);
        most = omega (arith, size, within, found.3);
      }

  -- one piece more is taken away
  abbrev pub taken-more : (end : ℕ) → end ≤ length bytes → IsLineEnd d bytes end → ((at : ℕ) → end < at → at ≤ length bytes → IsLineEnd d bytes at → ⊥)
      → (next : List ℕ) → next ≡ drop end bytes → IsTaken d text tells next (pieces + 1)
  taken-more end within line rest next is = record {
    left = more;
    told = told-now.told;
    taken = u.taken ++ take end bytes;
    order = order-cut end ∙ (sym (append_assoc u.taken (take end bytes) (drop end bytes ++ more)) ∙ ap (λ l. (u.taken ++ take end bytes) ++ (l ++ more)) (sym is));
    none = λ at h e.
        let few = ap length is in
        line-rest d bytes end within line rest at (omega (arith, few, h)) (subst (λ l. IsLineEnd d l at) is e);
    shorter =
        let a = ap length told-now.same in let b = length-append bytes more in let c = length-append next more in let d = length-drop end bytes in let e = ap length is in
        omega (arith, u.shorter, a, b, c, d, e, line.behind, within);
  }
