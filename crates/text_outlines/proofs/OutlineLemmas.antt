-- Lemmas on signs and on parts that are read one after another.
use Rattle.std.proofs.Common.{◌≡◌, ◌∙◌, sym, ap, subst, ℕ, Option, Some, None, Result, Ok, Err, List, [], ◌∷◌, ◌++◌, ◌<◌, ◌≤◌, refl, inr}
use Rattle.std.specs.Char.{is_whitespace}
use Rattle.std.specs.List.{take_while}
use Rattle.std.specs.Option.{MatchOption}
use Rattle.std.proofs.lemmas.Fn.{FoldsTo-push}
use Rattle.ir_names.specs.declared.identifier.Identifier.{Identifier}
use Rattle.ir_outlines.specs.Section.{Section}
use Rattle.ir_locations.specs.declared.location.Location.{Location}
use Rattle.outline_tables.specs.declared.entries.Reference.{Reference}
use Rattle.outline_tables.specs.declared.entries.Entry.{Entry}
use Rattle.text_streams.specs.declared.stream.StateStream.{StateStream}
use Rattle.text_streams.specs.declared.faults.ParseFault.{ParseFault}
use Rattle.text_streams.specs.declared.faults.TextError.TheVariants.{Syntax}
use Rattle.text_streams.specs.declared.position.Position.{Position}
use Rattle.text_streams.specs.Positions.{bytes_left, left, LiesBehind}
use Rattle.text_streams.specs.Spaces.{SkipsSpaces}
use Rattle.text_locations.specs.Faults.{IsFaultAt}
use Rattle.text_locations.specs.Locations.{At, Parser}
use Rattle.text_outlines.specs.Signs.{IsWithout, MissesSign, ReadsSign, Takes}
use Rattle.std.specs.Result.{IfOk}
use Rattle.text_outlines.specs.declared.sections.Mark.{Mark}
use Rattle.text_outlines.specs.Sections.{Behind, IsWithoutMark, ReadsBehind, ReadsEntries, ReadsItem, ReadsItems, ReadsMark}
use Rattle.text_outlines.specs.Members.{Among, AreRead, ReadsMember, ReadsMembers, ReadsNext, RefusesMembers, RefusesNext}

-- another token is behind the white space, and a fault is told there
pub missed : {S : Type 0} (sign : ℕ) (old new : StateStream S) (p : Position) (fault : ParseFault) → new ≡ old → IsWithout sign old →
    LiesBehind new.position p (take_while is_whitespace (left new.position)) → IsFaultAt p Syntax fault → MissesSign sign old fault
missed {S} sign old new p fault e w h at =
    let P : StateStream S → Type 0 = λ s. LiesBehind s.position p (take_while is_whitespace (left s.position)) in
    let spaces : LiesBehind old.position p (take_while is_whitespace (left old.position)) = subst P e h in
    record {
      without = w;
      at = record { here = w.spaces.behind.counted ∙ sym spaces.counted ∙ at.here; cause = at.cause; unconsumed = at.unconsumed };
    }

-- what an answer says where it is known
pub at_none : {X : Type 0} (A : Type 0) (B : X → Type 0) (o : Option X) → o ≡ None → MatchOption o A B → A
at_none A B None e h = h
at_none A B (Some x) e h = cc

pub at_some : {X : Type 0} (A : Type 0) (B : X → Type 0) (o : Option X) (x : X) → o ≡ Some x → MatchOption o A B → B x
at_some A B None x e h = cc
at_some A B (Some y) x e h = let same : y ≡ x = ap (λ o. elim o [ None ↦ x | Some z ↦ z ]) e in subst B same h

-- the sign was read behind what stayed where it was
pub sign_from : {S : Type 0} (sign : ℕ) (s t u : StateStream S) → t ≡ s → ReadsSign sign t u → ReadsSign sign s u
sign_from {S} sign s t u e h = let P : StateStream S → Type 0 = λ x. ReadsSign sign x u in subst P e h

pub less_than : (n m k : ℕ) → n ≡ m → k < n → k < m
less_than n m k e h = let P : ℕ → Type 0 = λ x. k < x in subst P e h

-- members that were read, one after another
module _ {F S A : Type 0} (parser : Parser F S A) (f : F) (s : StateStream S) (others : List (Identifier × Reference A)) (at : Among F S) (read : AreRead parser (f, s) others at) where
  pub one_more : (m : Identifier × Reference A) (q : Among F S) (end : At F S) → ReadsMember parser at m (q.0, end) → Takes 44 end q.1 →
      bytes_left q.1.1.position < bytes_left at.1.1.position → AreRead parser (f, s) (others ++ m ∷ []) q
  one_more m q end h k less =
      FoldsTo-push (ReadsNext parser) ([], (f, s)) others at m q read (record { end = end; member_read = h; comma = k; takes = less })

  pub some_ended : (start : StateStream S) (members : List (Identifier × Reference A)) (m : Identifier × Reference A) (end : Among F S) (w : At F S) → s ≡ start →
      members ≡ others ++ m ∷ [] → IsWithout 93 start → ReadsMember parser at m end → Takes 93 end.1 w → ReadsMembers parser (f, start) members w
  some_ended start members m end w e all without h k =
      let P : StateStream S → Type 0 = λ x. AreRead parser (f, x) others at in
      inr (record { without = without; others = others; last = m; all = all; at = at; others_read = subst P e read; end = end; last_read = h; closes = k })

  -- why the next one wasn't
  pub some_refused : (start : StateStream S) → s ≡ start → IsWithout 93 start → (fault : ParseFault) → RefusesNext parser at fault → RefusesMembers parser (f, start) fault
  some_refused start e without fault why =
      let P : StateStream S → Type 0 = λ x. AreRead parser (f, x) others at in
      inr (record { without = without; others = others; at = at; others_read = subst P e read; why = why })

-- an answer that says less
pub on_ok : {X E : Type 0} (P Q : X → Type 0) (r : Result X E) → ((x : X) → P x → Q x) → IfOk r P → IfOk r Q
on_ok P Q (Ok x) f h = f x h
on_ok P Q (Err e) f h = tt

-- entries that were read, one after another
module _ {F S A : Type 0} (parser : Parser F S A) (v : At F S) where
  pub no_items : (section : Section A (Location A)) → section ≡ [] → ReadsItems parser ([], v) (section, v)
  no_items section e = let P : Section A (Location A) → Type 0 = λ s. ReadsItems parser ([], v) (s, v) in subst P (sym e) ([], refl)

  pub item_more : (p : Behind F S A) (mark : Mark) (behind_mark : StateStream S) (entry : Entry A (Location A)) (q : Behind F S A) →
      ReadsItems parser ([], v) p → ReadsMark p.1.1 mark behind_mark → ReadsBehind parser (p.0, (p.1.0, behind_mark)) (mark.index, entry) q →
      bytes_left q.1.1.position < bytes_left p.1.1.position → ReadsItems parser ([], v) q
  item_more p mark behind_mark entry q read m h less = (
    read.0 ++ (mark.index, entry) ∷ [],
    FoldsTo-push (ReadsItem parser) ([], v) read.0 p (mark.index, entry) q read.1
        (record { here = m.0; behind_mark = behind_mark; mark = m.2; behind = h; takes = less }),
  )

  pub items_end : (p : Behind F S A) (new : StateStream S) → ReadsItems parser ([], v) p → new ≡ p.1.1 → IsWithoutMark p.1.1 → ReadsEntries parser v p.0 (p.1.0, new)
  items_end p new read e ends =
      let P : StateStream S → Type 0 = λ s. ReadsEntries parser v p.0 (p.1.0, s) in
      subst P (sym e) (record { read = read; ends = ends })

-- white space was read behind what stayed where it was
pub spaces_from : {S : Type 0} (s t u : StateStream S) → t ≡ s → SkipsSpaces t u → SkipsSpaces s u
spaces_from {S} s t u e h = let P : StateStream S → Type 0 = λ x. SkipsSpaces x u in subst P e h

pub without_from : {S : Type 0} (sign : ℕ) (s t : StateStream S) → t ≡ s → IsWithout sign t → IsWithout sign s
without_from {S} sign s t e h = let P : StateStream S → Type 0 = λ x. IsWithout sign x in subst P e h

pub misses_from : {S : Type 0} (sign : ℕ) (s t : StateStream S) (fault : ParseFault) → t ≡ s → MissesSign sign t fault → MissesSign sign s fault
misses_from {S} sign s t fault e h = let P : StateStream S → Type 0 = λ x. MissesSign sign x fault in subst P e h

pub no_less : (n m k : ℕ) → n ≡ m → n ≤ k → m ≤ k
no_less n m k e h = let P : ℕ → Type 0 = λ x. x ≤ k in subst P e h
