-- What `arrivals` prints: a line for each line of the script, then of each sender, then a last one.
use Rattle.std.specs.Prelude.{ℕ, ◌+◌, Bool, true, if◌then◌else◌, List, [], ◌∷◌, ◌++◌, codes, decimal, Option, Some, None}
use Rattle.std.specs.List.{flat_map, list_all}
use Rattle.rj_exchange.specs.declared.ledger.parcel.Parcel.{Parcel}
use Rattle.rj_exchange.specs.declared.ledger.parcel.Reason.{Reason}
use Rattle.rj_exchange.specs.declared.ledger.parcel.Reason.TheVariants.{WrongPartition, UnknownSender, BadLength, AfterClose, Repeat, BeyondClose, EarlyClose}
use Rattle.rj_exchange.specs.declared.ledger.parcel.Answer.{Answer}
use Rattle.rj_exchange.specs.declared.ledger.parcel.Answer.TheVariants.{Accepted, Held, Refused}
use Rattle.rj_exchange.specs.Standing.{Standing}
use Rattle.rj_exchange.specs.Ledgers.{LedgerValue, opened, answers, after_all}
use Rattle.rj_exchange.specs.Reading.{gap_at}
use Rattle.rj_line.specs.Script.{readings, parcels_of}

abbrev pub reason_text : Reason → List ℕ
reason_text WrongPartition = codes "wrong-partition"
reason_text UnknownSender = codes "unknown-sender"
reason_text BadLength = codes "bad-length"
reason_text AfterClose = codes "after-close"
reason_text Repeat = codes "repeat"
reason_text BeyondClose = codes "beyond-close"
reason_text EarlyClose = codes "early-close"

abbrev pub answer_text : Answer → List ℕ
answer_text (Accepted count) = codes "accepted " ++ decimal count
answer_text Held = codes "held"
answer_text (Refused reason) = codes "refused " ++ reason_text reason

-- the lines of a script's readings, in order: the parcels have these answers
abbrev pub answer_lines : List (Option Parcel) → List Answer → List (List ℕ)
answer_lines [] answers = []
answer_lines (None ∷ rs) answers = codes "unreadable" ∷ answer_lines rs answers
answer_lines (Some x ∷ rs) [] = []
answer_lines (Some x ∷ rs) (a ∷ answers) = answer_text a ∷ answer_lines rs answers

-- row numbers, a space before each
abbrev pub rows_text : List ℕ → List ℕ
rows_text rows = flat_map (λ row. 32 ∷ decimal row) rows

-- the state of the sender
abbrev pub standing_text : Standing → List ℕ
standing_text s = if s.closed then codes "complete" else codes "waiting " ++ decimal s.next

abbrev pub gap_lines : Bool → ℕ → Option (ℕ × ℕ) → List (List ℕ)
gap_lines true sender (Some gap) = (codes "sender " ++ (decimal sender ++ (codes " gap " ++ (decimal gap.0 ++ (32 ∷ decimal gap.1))))) ∷ []
gap_lines _ sender _ = []

-- the line of a sender, and that of its gap if these are asked for
abbrev pub sender_lines : Bool → ℕ → Standing → List (List ℕ)
sender_lines gaps sender s =
    (codes "sender " ++ (decimal sender ++ (32 ∷ standing_text s ++ (codes " rows" ++ rows_text s.rows))))
    ∷ gap_lines gaps sender (gap_at s)

-- those of the senders from one on
abbrev pub senders_lines : Bool → ℕ → List Standing → List (List ℕ)
senders_lines gaps sender [] = []
senders_lines gaps sender (s ∷ senders) = sender_lines gaps sender s ++ senders_lines gaps (sender + 1) senders

abbrev pub last_line : LedgerValue → List ℕ
last_line v = if list_all (λ s. s.closed) v.senders then codes "complete" else codes "incomplete"

-- the lines for these readings: the ledger's answers to the parcels, and its state after them
abbrev pub report : Bool → LedgerValue → List (Option Parcel) → List (List ℕ)
report gaps v rs =
    answer_lines rs (answers v (parcels_of rs))
    ++ (senders_lines gaps 0 (after_all v (parcels_of rs)).senders ++ (last_line (after_all v (parcels_of rs)) ∷ []))

-- lines, each ended by LF
abbrev pub text_of_lines : List (List ℕ) → List ℕ
text_of_lines lines = flat_map (λ line. line ++ 10 ∷ []) lines

-- the lines of these readings, with the ledger's answers to their parcels
abbrev pub answers_text : LedgerValue → List (Option Parcel) → List ℕ
answers_text v rs = text_of_lines (answer_lines rs (answers v (parcels_of rs)))

-- all that is printed for a script
abbrev pub printed : Bool → ℕ → ℕ → ℕ → List ℕ → List ℕ
printed gaps partition senders block script = text_of_lines (report gaps (opened partition senders block) (readings script))
