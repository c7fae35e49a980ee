-- Lemmas on locations in one another.
use Rattle.std.proofs.Common.{◌≡◌, ◌-◌, refl, subst, ℕ, suc, zero, true, inl, inr, List, [], ◌∷◌, ◌++◌, ◌<◌}
use Rattle.std.proofs.Math.Numerals.{sub-one}
use Rattle.std.proofs.lemmas.Fn.{FoldsTo-push}
use Rattle.ir_locations.specs.declared.location.Location.{Location}
use Rattle.text_streams.specs.declared.stream.StateStream.{StateStream}
use Rattle.text_streams.specs.declared.faults.ParseFault.{ParseFault}
use Rattle.text_streams.specs.declared.faults.TextError.TheVariants.{TooDeep}
use Rattle.text_locations.specs.declared.firsts.First.{First}
use Rattle.text_streams.specs.Positions.{bytes_left}
use Rattle.text_locations.specs.declared.tokens.Token.TheVariants.{Comma, Closes}
use Rattle.text_locations.specs.Faults.{IsFaultAt}
use Rattle.text_locations.specs.Tokens.{IsWithout}
use Rattle.text_locations.specs.Firsts.{ReadsFirst, RefusesFirst}
use Rattle.text_locations.specs.Locations.{Parser, At, ReadsBehind, RefusesBehind, has_room, as_consumed, ReadsLocation, RefusesLocation, Reader, Refuser, Takes, ReadsNext, ReadsMember, AreRead, ReadsMembers, RefusesMember, RefusesMembers}

pub room_is : (depth : ℕ) → (depth ≡ 0 → ⊥) → has_room depth ≡ true
room_is zero h = absurd (h refl)
room_is (suc depth) h = refl

one_less : (depth : ℕ) → suc depth - 1 ≡ depth
one_less depth = sub-one (suc depth)

module _ {F S A : Type 0} (parser : Parser F S A) where
  pub refuses_first : (depth : ℕ) (v : At F S) (fault : ParseFault) → RefusesFirst v.1 fault → RefusesLocation parser depth v fault
  unfolding RefusesLocation
  refuses_first zero v fault h = inl h
  refuses_first (suc depth) v fault h = inl h

  pub refuses_deep : (depth : ℕ) (v : At F S) (fault : ParseFault) (first : First) (behind : StateStream S) → depth ≡ 0 → ReadsFirst v.1 first behind →
      IsFaultAt v.1.position TooDeep fault → RefusesLocation parser depth v fault
  unfolding RefusesLocation
  refuses_deep zero v fault first behind e h k = inr (first, behind, h, k)
  refuses_deep (suc depth) v fault first behind e h k = cc

  pub reads_behind : (depth : ℕ) (v : At F S) (l : Location A) (w : At F S) (first : First) (behind : StateStream S) → (depth ≡ 0 → ⊥) → ReadsFirst v.1 first behind →
      ReadsBehind parser (has_room (depth - 1)) (ReadsLocation parser (depth - 1)) first (v.0, behind) l w → ReadsLocation parser depth v l w
  unfolding ReadsLocation
  reads_behind zero v l w first behind e h k = absurd (e refl)
  reads_behind (suc depth) v l w first behind e h k =
      let P : ℕ → Type 0 = λ n. ReadsBehind parser (has_room n) (ReadsLocation parser n) first (v.0, behind) l w in
      (first, behind, h, subst P (one_less depth) k)

  pub refuses_behind : (depth : ℕ) (v : At F S) (fault : ParseFault) (first : First) (behind : StateStream S) → (depth ≡ 0 → ⊥) → ReadsFirst v.1 first behind →
      RefusesBehind parser (has_room (depth - 1)) (ReadsLocation parser (depth - 1)) (RefusesLocation parser (depth - 1)) first (v.0, behind) fault →
      RefusesLocation parser depth v (as_consumed fault)
  unfolding RefusesLocation
  refuses_behind zero v fault first behind e h k = absurd (e refl)
  refuses_behind (suc depth) v fault first behind e h k =
      let P : ℕ → Type 0 = λ n. RefusesBehind parser (has_room n) (ReadsLocation parser n) (RefusesLocation parser n) first (v.0, behind) fault in
      inr (first, behind, h, fault, refl, subst P (one_less depth) k)

-- members that were read, one after another
module _ {F S A : Type 0} (inner : Reader F S A) (f : F) (s start : StateStream S) (others : List (Location A)) (at : At F S) (read : AreRead inner (f, s) others at) where
  pub one_more : (l : Location A) (end w : At F S) → ReadsNext inner at l end → Takes Comma end w → bytes_left w.1.position < bytes_left at.1.position →
      AreRead inner (f, s) (others ++ l ∷ []) w
  one_more l end w h k less =
      FoldsTo-push (ReadsMember inner) (f, s) others at l w read (record { end = end; read = h; comma = k; takes = less })

  from_start : s ≡ start → AreRead inner (f, start) others at
  from_start e = let P : StateStream S → Type 0 = λ x. AreRead inner (f, x) others at in subst P e read

  pub some_ended : (l : Location A) (end w : At F S) → s ≡ start → IsWithout Closes start → ReadsNext inner at l end → Takes Closes end w →
      ReadsMembers inner (f, start) (others ++ l ∷ []) w
  some_ended l end w e without h k = inr (record {
    without = without;
    others = others;
    last = l;
    all = refl;
    at = at;
    read = from_start e;
    end = end;
    last_read = h;
    closes = k;
  })

  pub some_refused : (refuses : Refuser F S) (fault : ParseFault) → s ≡ start → IsWithout Closes start → RefusesMember inner refuses at fault →
      RefusesMembers inner refuses (f, start) fault
  some_refused refuses fault e without h = inr (record { without = without; others = others; at = at; read = from_start e; why = h })
