-- What is read of all the tokens is their only clause; where they have none, reading stops at the first token with which they begin none.
use Rattle.std.proofs.Common.{◌≡◌, ◌+◌, ◌∙◌, ◌++◌, ◌∷◌, [], ℕ, suc, Bool, List, length, length-append, take, Ok, Err, true, false, refl, sym, ap, subst, append_assoc, arith}
use Rattle.rj_condition.specs.declared.token.Keyword.TheVariants as keyword
use Rattle.rj_condition.specs.declared.token.Sign.TheVariants as sign
use Rattle.rj_condition.specs.declared.token.Token.{Token}
use Rattle.rj_condition.specs.declared.token.Token.TheVariants as token
use Rattle.rj_condition.specs.declared.tree.Name.{Name}
use Rattle.rj_condition.specs.declared.tree.JoinKind.{JoinKind}
use Rattle.rj_condition.specs.declared.tree.JoinKind.TheVariants as kind
use Rattle.rj_condition.specs.declared.tree.Condition.{Condition}
use Rattle.rj_condition.specs.declared.tree.Clause.{Clause}
use Rattle.rj_condition.specs.declared.tree.Clause.TheVariants as clause
use Rattle.rj_condition.specs.Clauses.{BeginsClause, IsStop}
use Rattle.rj_condition.specs.Grammar.{optional, any_of, IsTerms, IsNames, IsJoin, inner, left, right, full, Derives, cross, natural, on, using}
use Rattle.rj_condition.specs.Internal.Reading.{Read, ◌>>=◌, expect, after, behind, opt, optionally, names_at, cond_at, by_inner, by_left, by_right, by_full, kind_at, joined, join_at, ended, cross_at, natural_at, on_at, using_at, by_on, qualified_at, by_natural, by_cross, clause_at}
use Rattle.rj_condition.proofs.Complete.{cond_complete, names_complete, close_no_comma}
use Rattle.rj_condition.proofs.Readers.{IsCondition, cond_reader, names_reader}
use Rattle.rj_condition.proofs.Stopping.{Follows, IsReader, IsStep, Stops, Takes, bound, by_next, giving, next_keyword, next_sign, then_next}

-- the type of a join, and JOIN behind it
joined_reader : (k : JoinKind) (R : List Token → JoinKind → List Token → Type 0) → ((us : List Token) → R (token.Keyword keyword.Join ∷ us) k us)
    → IsReader JoinKind (λ us. joined (k, us)) R
joined_reader k R holds =
    then_next (token.Keyword keyword.Join) (after keyword.Join) (next_keyword keyword.Join) R (λ us. Ok (k, us))
    (giving k (λ us. R (token.Keyword keyword.Join ∷ us)) holds)

outer_reader : (k : JoinKind) (R : List Token → JoinKind → List Token → Type 0)
    → ((outer : Bool) (us : List Token) → R (optional outer keyword.Outer (token.Keyword keyword.Join ∷ us)) k us)
    → IsReader JoinKind (λ us. joined (k, (opt keyword.Outer us).1)) R
outer_reader k R holds =
    by_next (token.Keyword keyword.Outer) (after keyword.Outer) (next_keyword keyword.Outer) R (λ us o. joined (k, (optionally o us).1))
    (joined_reader k (λ us. R (token.Keyword keyword.Outer ∷ us)) (holds true)) (joined_reader k R (holds false))

join_reader : IsReader JoinKind join_at IsJoin
unfolding join_at kind_at
join_reader =
    by_next (token.Keyword keyword.Inner) (after keyword.Inner) (next_keyword keyword.Inner) IsJoin (λ ts o. joined (by_inner ts o))
    (joined_reader kind.Inner (λ us. IsJoin (token.Keyword keyword.Inner ∷ us)) (inner true))
    (by_next (token.Keyword keyword.Left) (after keyword.Left) (next_keyword keyword.Left) IsJoin (λ ts o. joined (by_left ts o))
    (outer_reader kind.Left (λ us. IsJoin (token.Keyword keyword.Left ∷ us)) left)
    (by_next (token.Keyword keyword.Right) (after keyword.Right) (next_keyword keyword.Right) IsJoin (λ ts o. joined (by_right ts o))
    (outer_reader kind.Right (λ us. IsJoin (token.Keyword keyword.Right ∷ us)) right)
    (by_next (token.Keyword keyword.Full) (after keyword.Full) (next_keyword keyword.Full) IsJoin (λ ts o. joined (by_full ts o))
    (outer_reader kind.Full (λ us. IsJoin (token.Keyword keyword.Full ∷ us)) full) (joined_reader kind.Inner IsJoin (inner false)))))

-- a value, where nothing is left
ended_step : {A : Type 0} (x : A) (R : List Token → A → List Token → Type 0) → ((ws : List Token) → R ws x ws) → (ts : List Token)
    → IsStep A (ended x) R ts (ended x ts)
ended_step x R holds [] = record {
  taken = [];
  parts = refl;
  again = λ us follows. subst (λ (z : List Token). ended x z ≡ Ok (x, z)) (sym follows) refl;
  related = holds;
}
ended_step x R holds (t ∷ ts) = record {
  before = [];
  rest = t ∷ ts;
  parts = refl;
  many = refl;
  again = λ us follows. subst (λ (z : List Token). ended x z ≡ Err (length z)) (sym follows.1) refl;
  begins = ([], x, holds);
}

ended_reader : {A : Type 0} (x : A) (R : List Token → A → List Token → Type 0) → ((ws : List Token) → R ws x ws) → IsReader A (ended x) R
ended_reader x R holds = record { step = ended_step x R holds; begins = ([], x, holds) }

-- the tokens are those of the clause, where nothing is left behind them
abbrev IsWhole : List Token → Clause → List Token → Type 0
IsWhole ts c ws = ws ≡ [] → Derives ts c

cross_reader : IsReader Clause cross_at (λ us. IsWhole (token.Keyword keyword.Cross ∷ us))
unfolding cross_at
cross_reader =
    then_next (token.Keyword keyword.Join) (after keyword.Join) (next_keyword keyword.Join) (λ us. IsWhole (token.Keyword keyword.Cross ∷ us)) (ended clause.Cross)
    (ended_reader clause.Cross (λ us. IsWhole (token.Keyword keyword.Cross ∷ token.Keyword keyword.Join ∷ us))
    (λ ws e. subst (λ (z : List Token). Derives (token.Keyword keyword.Cross ∷ token.Keyword keyword.Join ∷ z) clause.Cross) (sym e) cross))

natural_reader : IsReader Clause natural_at (λ us. IsWhole (token.Keyword keyword.Natural ∷ us))
unfolding natural_at
natural_reader =
    bound join_at IsJoin (λ k us. ended (clause.Natural k) us) (λ us. IsWhole (token.Keyword keyword.Natural ∷ us)) join_reader
    (λ k. ended_reader (clause.Natural k) (λ us c ws. (ts : List Token) → IsJoin ts k us → IsWhole (token.Keyword keyword.Natural ∷ ts) c ws)
    (λ ws ts h e. natural ts k (subst (λ (z : List Token). IsJoin ts k z) e h)))

-- what stands behind the type of a join
module _ (k : JoinKind) where
  abbrev Joined : List Token → Clause → List Token → Type 0
  Joined us c ws = (ts : List Token) → IsJoin ts k us → IsWhole ts c ws

  on_reader : IsReader Clause (on_at k) (λ us. Joined (token.Keyword keyword.On ∷ us))
  unfolding on_at
  on_reader =
      bound (λ ts. cond_at (length ts) ts) IsCondition (λ c us. ended (clause.On k c) us) (λ us. Joined (token.Keyword keyword.On ∷ us)) cond_reader
      (λ c. ended_reader (clause.On k c) (λ us d ws. (vs : List Token) → IsCondition vs c us → Joined (token.Keyword keyword.On ∷ vs) d ws)
      (λ ws vs h ts j e. subst (λ (z : Condition). Derives ts (clause.On k z)) (sym h.1) (on ts k vs h.0 j (subst (λ (z : List Token). IsTerms vs h.0 z) e h.2))))

  using_reader : IsReader Clause (using_at k) Joined
  unfolding using_at
  using_reader =
      then_next (token.Keyword keyword.Using) (after keyword.Using) (next_keyword keyword.Using) Joined
      (λ us. expect (behind sign.Open us) us >>= λ v. names_at v.1 >>= λ ns. expect (behind sign.Close ns.1) ns.1 >>= λ w. ended (clause.Using k ns.0) w.1)
      (then_next (token.Sign sign.Open) (behind sign.Open) (next_sign sign.Open) (λ us. Joined (token.Keyword keyword.Using ∷ us))
      (λ us. names_at us >>= λ ns. expect (behind sign.Close ns.1) ns.1 >>= λ w. ended (clause.Using k ns.0) w.1)
      (bound names_at IsNames (λ ns us. expect (behind sign.Close us) us >>= λ w. ended (clause.Using k ns) w.1)
      (λ us. Joined (token.Keyword keyword.Using ∷ token.Sign sign.Open ∷ us)) names_reader
      (λ ns. then_next (token.Sign sign.Close) (behind sign.Close) (next_sign sign.Close)
      (λ us c ws. (vs : List Token) → IsNames vs ns us → Joined (token.Keyword keyword.Using ∷ token.Sign sign.Open ∷ vs) c ws) (ended (clause.Using k ns))
      (ended_reader (clause.Using k ns)
      (λ us c ws. (vs : List Token) → IsNames vs ns (token.Sign sign.Close ∷ us) → Joined (token.Keyword keyword.Using ∷ token.Sign sign.Open ∷ vs) c ws)
      (λ ws vs h ts j e. using ts k vs ns j (subst (λ (z : List Token). IsNames vs ns (token.Sign sign.Close ∷ z)) e h))))))

  qualified_by_on : IsReader Clause (λ us. by_on k us (after keyword.On us)) Joined
  qualified_by_on = by_next (token.Keyword keyword.On) (after keyword.On) (next_keyword keyword.On) Joined (by_on k) on_reader using_reader

qualified_reader : IsReader Clause qualified_at IsWhole
unfolding qualified_at
qualified_reader = bound join_at IsJoin (λ k us. by_on k us (after keyword.On us)) IsWhole join_reader qualified_by_on

clause_reader : IsReader Clause clause_at IsWhole
unfolding clause_at
clause_reader =
    by_next (token.Keyword keyword.Cross) (after keyword.Cross) (next_keyword keyword.Cross) IsWhole by_cross cross_reader
    (by_next (token.Keyword keyword.Natural) (after keyword.Natural) (next_keyword keyword.Natural) IsWhole by_natural natural_reader qualified_reader)

pub clause_sound : (ts : List Token) (c : Clause) → clause_at ts ≡ Ok (c, []) → Derives ts c
clause_sound ts c e =
    let s : Takes Clause clause_at IsWhole ts (c, []) = subst (λ (q : Read Clause). IsStep Clause clause_at IsWhole ts q) e (clause_reader.step ts) in
    subst (λ (z : List Token). Derives z c) (sym s.parts) (s.related [] refl)

-- each clause is read
join_complete : (ts : List Token) (k : JoinKind) (us : List Token) → IsJoin ts k us → join_at ts ≡ Ok (k, us)
unfolding join_at kind_at after
join_complete _ _ _ (inner true us) = refl
join_complete _ _ _ (inner false us) = refl
join_complete _ _ _ (left true us) = refl
join_complete _ _ _ (left false us) = refl
join_complete _ _ _ (right true us) = refl
join_complete _ _ _ (right false us) = refl
join_complete _ _ _ (full true us) = refl
join_complete _ _ _ (full false us) = refl

join_qualifies : (ts : List Token) (k : JoinKind) (us : List Token) → IsJoin ts k us → clause_at ts ≡ qualified_at ts
unfolding clause_at after
join_qualifies _ _ _ (inner true us) = refl
join_qualifies _ _ _ (inner false us) = refl
join_qualifies _ _ _ (left outer us) = refl
join_qualifies _ _ _ (right outer us) = refl
join_qualifies _ _ _ (full outer us) = refl

qualified_by : (ts : List Token) (k : JoinKind) (us : List Token) → IsJoin ts k us → clause_at ts ≡ by_on k us (after keyword.On us)
unfolding qualified_at
qualified_by ts k us h = join_qualifies ts k us h ∙ ap (λ (r : Read JoinKind). r >>= λ k. by_on k.0 k.1 (after keyword.On k.1)) (join_complete ts k us h)

cross_read : clause_at (token.Keyword keyword.Cross ∷ token.Keyword keyword.Join ∷ []) ≡ Ok (clause.Cross, [])
unfolding clause_at cross_at after
cross_read = refl

natural_read : (ts : List Token) (k : JoinKind) → IsJoin ts k [] → clause_at (token.Keyword keyword.Natural ∷ ts) ≡ Ok (clause.Natural k, [])
unfolding clause_at natural_at after
natural_read ts k h = ap (λ (r : Read JoinKind). r >>= λ k. ended (clause.Natural k.0) k.1) (join_complete ts k [] h)

on_read : (k : JoinKind) (vs : List Token) (cs : List Condition) → IsTerms vs cs []
    → by_on k (token.Keyword keyword.On ∷ vs) (after keyword.On (token.Keyword keyword.On ∷ vs)) ≡ Ok (clause.On k (any_of cs), [])
unfolding on_at after
on_read k vs cs h = ap (λ (r : Read Condition). r >>= λ c. ended (clause.On k c.0) c.1) (cond_complete vs cs h)

using_read : (k : JoinKind) (vs : List Token) (ns : List Name) → IsNames vs ns (token.Sign sign.Close ∷ []) →
    by_on k (token.Keyword keyword.Using ∷ token.Sign sign.Open ∷ vs) (after keyword.On (token.Keyword keyword.Using ∷ token.Sign sign.Open ∷ vs)) ≡ Ok (clause.Using k ns, [])
unfolding using_at after behind
using_read k vs ns h =
    ap (λ (r : Read (List Name)). r >>= λ ns. expect (behind sign.Close ns.1) ns.1 >>= λ w. ended (clause.Using k ns.0) w.1) (names_complete vs ns (token.Sign sign.Close ∷ []) h (close_no_comma []))

pub clause_complete : (ts : List Token) (c : Clause) → Derives ts c → clause_at ts ≡ Ok (c, [])
clause_complete _ _ cross = cross_read
clause_complete _ _ (natural ts k h) = natural_read ts k h
clause_complete _ _ (on ts k vs cs h l) = qualified_by ts k (token.Keyword keyword.On ∷ vs) h ∙ on_read k vs cs l
clause_complete _ _ (using ts k vs ns h l) = qualified_by ts k (token.Keyword keyword.Using ∷ token.Sign sign.Open ∷ vs) h ∙ using_read k vs ns l

-- the clause that is read, or another one
abbrev clause_or : Clause → Read Clause → Clause
clause_or c (Ok p) = p.0
clause_or c (Err n) = c

pub one_clause : (ts : List Token) (c d : Clause) → Derives ts c → Derives ts d → c ≡ d
one_clause ts c d p q = ap (clause_or c) (sym (clause_complete ts c p) ∙ clause_complete ts d q)

-- a clause isn't read where reading stops
not_both : (c : Clause) (n : ℕ) → ◌≡◌ {A = Read Clause} (Ok (c, [])) (Err n) → ⊥
not_both c n e = cc

take_of : (a b : List Token) → take (length a) (a ++ b) ≡ a
take_of [] b = refl
take_of (t ∷ a) b = ap (λ (z : List Token). t ∷ z) (take_of a b)

take_more : (a : List Token) (t : Token) (b : List Token) → take (suc (length a)) (a ++ t ∷ b) ≡ a ++ t ∷ []
take_more [] t b = refl
take_more (u ∷ a) t b = ap (λ (z : List Token). u ∷ z) (take_more a t b)

stop_between : (before rest : List Token) → BeginsClause before → ((us : List Token) → Follows rest us → clause_at (before ++ us) ≡ Err (length us))
    → IsStop (before ++ rest) (length before)
stop_between before [] begins again = record {
  within = omega (arith, length-append before []);
  begins = subst BeginsClause (sym (take_of before [])) begins;
  stops = λ more. absurd (omega (arith, length-append before [], more));
}
stop_between before (t ∷ rest) begins again = record {
  within = omega (arith, length-append before (t ∷ rest));
  begins = subst BeginsClause (sym (take_of before (t ∷ rest))) begins;
  stops = λ more further.
      let h : BeginsClause (before ++ t ∷ []) = subst BeginsClause (take_more before t rest) further in
      let whole : Derives (before ++ t ∷ h.0) h.1 = subst (λ (z : List Token). Derives z h.1) (append_assoc before (t ∷ []) h.0) h.2 in
      not_both h.1 (length (t ∷ h.0)) (sym (clause_complete (before ++ t ∷ h.0) h.1 whole) ∙ again (t ∷ h.0) (h.0, refl));
}

-- where reading stops, the tokens before begin a clause, and with the next one they begin none
pub stop : (ts : List Token) (many : ℕ) → clause_at ts ≡ Err many → (n : ℕ) × (n + many ≡ length ts) × IsStop ts n
stop ts many e =
    let s : Stops Clause clause_at IsWhole ts many = subst (λ (q : Read Clause). IsStep Clause clause_at IsWhole ts q) e (clause_reader.step ts) in
    let begins : BeginsClause s.before = (s.begins.0 ++ [], s.begins.1, s.begins.2 [] refl) in (
      length s.before,
      omega (arith, s.many, ap length s.parts, length-append s.before s.rest),
      subst (λ (z : List Token). IsStop z (length s.before)) (sym s.parts) (stop_between s.before s.rest begins s.again),
    )
