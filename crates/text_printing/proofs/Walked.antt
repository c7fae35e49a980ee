-- A list that an iterator goes through, printed member by member.
use Rattle.std.proofs.Common.{◌≡◌, ℕ, Bool, true, false, cond, suc, List, [], ◌∷◌, ◌++◌, sym, subst, arith}
use Rattle.std.specs.Prelude.{All}
use Rattle.ir_print.specs.Formats.{Formats}
use Rattle.ir_print.specs.Layout.{Chunk}
use Rattle.ir_print.specs.Shown.{Saying}
use Rattle.ir_program.specs.declared.handles.Ptr.{Ptr}
use Rattle.ir_program.specs.declared.handles.BasicBlock.{BasicBlock}
use Rattle.text_dialect.specs.Seen.{Seen}
use Rattle.text_printing.specs.Printing.{AddsText}
use Rattle.text_printing.proofs.EntitiesPrinted.{any_first}
use Rattle.text_printing.proofs.RowsOwed.{Each, ShallowBlock, blocks_left}
use Rattle.text_printing.proofs.Owed.{IsRow, Owed, Prints, owed_start, owed_step, owed_end}

-- it holds of each of these
abbrev pub EachHolds : {X : Type 0} → (X → Type 0) → List X → Type 0
EachHolds P [] = Unit {0}
EachHolds P (x ∷ xs) = P x × EachHolds P xs

all_hold : {X : Type 0} (P : X → Type 0) (xs : List X) → All P xs → EachHolds P xs
all_hold P [] h = tt
all_hold P (x ∷ xs) h = (h 0 x (omega arith), all_hold P xs (λ k d lt. h (suc k) d (omega arith)))

-- what is printed of the list, and what holds of those that are left
pub record IsWalked {X T : Type 0} (P : X → Type 0) (Shows : List X → T → Type 0) (on : Bool → T → List Chunk → List Chunk)
    (all left : List X) (is_first : Bool) (old now : List ℕ) : Type 0 where
  pub owed : Owed Shows on all left is_first old now
  pub holds : EachHolds P left

pub walk_start : {X T : Type 0} (P : X → Type 0) (Shows : List X → T → Type 0) (on : Bool → T → List Chunk → List Chunk)
    (all items : List X) (old : List ℕ) → items ≡ all → All P all → IsWalked P Shows on all items true old old
walk_start P Shows on all items old e h = record {
  owed = subst (λ xs. Owed Shows on all xs true old old) (sym e) (owed_start Shows on all old);
  holds = subst (EachHolds P) (sym e) (all_hold P all h);
}

module _ {X U T : Type 0} (P : X → Type 0) {ShowsOne : X → U → Type 0} {Shows : List X → T → Type 0}
    {on : Bool → T → List Chunk → List Chunk} {part : U → List Chunk → List Chunk} {separator : List ℕ}
    (row : IsRow ShowsOne Shows on part separator) (all left : List X) (b : Bool) (old now : List ℕ)
    (walked : IsWalked P Shows on all left b old now) where
  -- it holds of the next one
  pub walk_holds : (x : X) (rest : List X) → left ≡ x ∷ rest → P x
  walk_holds x rest e = (subst (EachHolds P) e walked.holds).0

  pub walk_next : (x : X) (rest : List X) (mid next : List ℕ) → left ≡ x ∷ rest → mid ≡ now ++ cond b [] separator →
      Prints ShowsOne part x mid next → IsWalked P Shows on all rest false old next
  walk_next x rest mid next e m p = record {
    owed =
        owed_step row all x rest b old now next (subst (λ xs. Owed Shows on all xs b old now) e walked.owed)
        (subst (λ y. Prints ShowsOne part x y next) m p);
    holds = (subst (EachHolds P) e walked.holds).1;
  }

  pub walk_end : left ≡ [] → (whole : T) (rest : List Chunk) → Shows all whole → AddsText old now rest (on true whole rest)
  walk_end e = owed_end row all b old now (subst (λ xs. Owed Shows on all xs b old now) e walked.owed)

-- there is nothing between two blocks
module _ {K A T : Type 0} (says : Saying K A T) (f : Formats) (s : Seen K A T) (n left : ℕ) (P : Ptr BasicBlock → Type 0) where
  pub any_walked : (b : Bool) {all left_over : List (Ptr BasicBlock)} {old now : List ℕ} →
      IsWalked P (Each (ShallowBlock says s f n left)) (blocks_left says s f n left) all left_over b old now →
      IsWalked P (Each (ShallowBlock says s f n left)) (blocks_left says s f n left) all left_over true old now
  any_walked b w = record { owed = any_first says f s n left b w.owed; holds = w.holds }
