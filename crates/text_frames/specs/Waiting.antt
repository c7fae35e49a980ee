-- Operations that wait for their operands and successors, each with the tokens that name them; and how all these tokens stand
-- in two lists, one operation's behind the other's.
use Rattle.std.specs.Prelude.{◌≡◌, ◌≤◌, ◌<◌, ◌-◌, ℕ, zero, suc, List, [], ◌∷◌, take, drop}
use Rattle.ir_program.specs.declared.handles.Ptr.{Ptr}
use Rattle.ir_program.specs.declared.handles.Operation.{Operation}
use Rattle.text_frames.specs.declared.waiting.WaitingRow.{WaitingRow}

-- the operands of an operation, by the tokens that name them, and the blocks that it may go on to, by the tokens of their labels
pub record Pending : Type 0 where
  pub op : Ptr Operation
  pub tokens : List ℕ
  pub labels : List ℕ

-- operations that wait, and for how many more, and how many more tokens and labels in all, there is memory
pub record Waiting : Type 0 where
  pub items : List Pending
  pub spare_rows : ℕ
  pub spare_tokens : ℕ
  pub spare_labels : ℕ

-- there is memory for one more operation with so many tokens and labels
abbrev pub HasRoom : Waiting → (tokens labels : ℕ) → Type 0
HasRoom w n m = (0 < w.spare_rows) × (n ≤ w.spare_tokens) × (m ≤ w.spare_labels)

-- where the tokens of a row end, and its labels
abbrev pub tokens_end : WaitingRow → ℕ
tokens_end r = r.tokens_end

abbrev pub labels_end : WaitingRow → ℕ
labels_end r = r.labels_end

-- The operations of these rows, with the tokens and the labels of two lists that end there. The first row's tokens begin at low,
-- and its labels at first, each other's where those before them end.
abbrev pub waiting_from : (low first : ℕ) → List WaitingRow → (tokens labels : List ℕ) → List Pending
waiting_from low first [] ks ls = []
waiting_from low first (r ∷ rs) ks ls = record {
  op = r.op;
  tokens = take (r.tokens_end - low) (drop low ks);
  labels = take (r.labels_end - first) (drop first ls);
} ∷ waiting_from r.tokens_end r.labels_end rs ks ls

-- such ends of the rows don't fall, from low on, and the last is high
abbrev pub AreRowEnds : (WaitingRow → ℕ) → ℕ → List WaitingRow → ℕ → Type 0
AreRowEnds end low [] high = low ≡ high
AreRowEnds end low (r ∷ rs) high = (low ≤ end r) × AreRowEnds end (end r) rs high

-- where what ends with the row at an index begins
abbrev pub start_from : (WaitingRow → ℕ) → ℕ → List WaitingRow → ℕ → ℕ
start_from end low rs zero = low
start_from end low [] (suc k) = low
start_from end low (r ∷ rs) (suc k) = start_from end (end r) rs k
