-- A ledger as contracts see it, and what an offered parcel does to it.
use Rattle.std.specs.Prelude.{◌≡◌, ℕ, ◌==◌, true, cond, not, List, [], ◌∷◌, length, nat_lt, slice_index_or, slice_set, replicate}
use Rattle.std.specs.List.{list_all}
use Rattle.rj_exchange.specs.declared.ledger.parcel.Parcel.{Parcel}
use Rattle.rj_exchange.specs.declared.ledger.parcel.Reason.TheVariants.{WrongPartition, UnknownSender}
use Rattle.rj_exchange.specs.declared.ledger.parcel.Answer.{Answer}
use Rattle.rj_exchange.specs.declared.ledger.parcel.Answer.TheVariants.{Accepted, Held, Refused}
use Rattle.rj_exchange.specs.Standing.{Standing, nothing_yet}
use Rattle.rj_exchange.specs.Rules.{answer, after}

-- its partition and block size, and what it keeps of each sender, by sender
pub record LedgerValue : Type 0 where
  pub partition : ℕ
  pub block : ℕ
  pub senders : List Standing

-- a ledger to which nothing was offered
abbrev pub opened : ℕ → ℕ → ℕ → LedgerValue
opened partition senders block = record { partition = partition; block = block; senders = replicate senders nothing_yet }

-- what it keeps of one sender
abbrev pub standing : LedgerValue → ℕ → Standing
standing v s = slice_index_or v.senders s nothing_yet

-- the nine rules, in their order
abbrev pub answer_to : LedgerValue → Parcel → Answer
answer_to v x =
    cond (not (x.partition == v.partition)) (Refused WrongPartition)
    (cond (not (nat_lt x.sender (length v.senders))) (Refused UnknownSender)
    (answer v.block (standing v x.sender) x.number x.body))

-- the ledger after an answer: only what is kept of the parcel's sender changes
abbrev pub after_answer : Answer → LedgerValue → Parcel → LedgerValue
after_answer (Refused _) v x = v
after_answer (Accepted n) v x = record {
  partition = v.partition;
  block = v.block;
  senders = slice_set v.senders x.sender (after (Accepted n) (standing v x.sender) x.number x.body);
}
after_answer Held v x = record {
  partition = v.partition;
  block = v.block;
  senders = slice_set v.senders x.sender (after Held (standing v x.sender) x.number x.body);
}

abbrev pub after_offer : LedgerValue → Parcel → LedgerValue
after_offer v x = after_answer (answer_to v x) v x

-- a whole list of parcels: the answers, and the ledger after them
abbrev pub answers : LedgerValue → List Parcel → List Answer
answers v [] = []
answers v (x ∷ xs) = answer_to v x ∷ answers (after_offer v x) xs

abbrev pub after_all : LedgerValue → List Parcel → LedgerValue
after_all v [] = v
after_all v (x ∷ xs) = after_all (after_offer v x) xs

-- the close of each sender was delivered
abbrev pub IsComplete : LedgerValue → Type 0
IsComplete v = list_all (λ s. s.closed) v.senders ≡ true

-- of one partition and block size, for as many senders
pub record IsSameShape (v w : LedgerValue) : Type 0 where
  pub partition : w.partition ≡ v.partition
  pub block : w.block ≡ v.block
  pub senders : length w.senders ≡ length v.senders
