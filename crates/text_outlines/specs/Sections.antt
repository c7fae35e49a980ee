-- What texts a section has.
use Rattle.std.specs.Prelude.{ℕ, ◌≡◌, ◌<◌, ◌≤◌, ◌++◌, ◌⊎◌, true, false, List, [], ◌∷◌, None, is_some}
use Rattle.std.specs.List.{FoldsTo}
use Rattle.ir_locations.specs.declared.location.Location.{Location}
use Rattle.ir_outlines.specs.Section.{Section, entry_among}
use Rattle.outline_tables.specs.declared.entries.Entry.{Entry}
use Rattle.outline_tables.specs.Tables.{entry_of}
use Rattle.text_marks.specs.Marks.{begins_with_mark, ReadsNumberOfMark, RefusesMark}
use Rattle.text_streams.specs.declared.stream.StateStream.{StateStream}
use Rattle.text_streams.specs.declared.faults.ParseFault.{ParseFault}
use Rattle.text_streams.specs.declared.faults.TextError.TheVariants.{OutlineRedefined, Syntax}
use Rattle.text_streams.specs.Positions.{bytes_left, left}
use Rattle.text_streams.specs.Spaces.{SkipsSpaces}
use Rattle.text_locations.specs.Locations.{At, Parser, as_consumed}
use Rattle.text_locations.specs.Faults.{IsFaultAt, IsMemory}
use Rattle.text_outlines.specs.declared.sections.Mark.{Mark}
use Rattle.text_outlines.specs.Entries.{ReadsEntry, RefusesEntry}
use Rattle.text_outlines.specs.Names.{ReadsWord, RefusesWord}
use Rattle.text_outlines.specs.Signs.{ReadsSign, MissesSign, Takes}

-- white space and the mark of an entry were read
pub record ReadsIndex {S : Type 0} (old : StateStream S) (here : StateStream S) (index : ℕ) (new : StateStream S) : Type 0 where
  pub spaces : SkipsSpaces old here
  pub there : begins_with_mark (left here.position) ≡ true
  pub number : ReadsNumberOfMark here new index

-- that is this mark, at its place
abbrev pub ReadsMark : {S : Type 0} → StateStream S → Mark → StateStream S → Type 0
ReadsMark {S} old mark new = (here : StateStream S) × (mark.place ≡ here.position) × ReadsIndex old here mark.index new

-- no `!` is behind the white space
pub record IsWithoutMark {S : Type 0} (old : StateStream S) : Type 0 where
  pub here : StateStream S
  pub spaces : SkipsSpaces old here
  pub without : begins_with_mark (left here.position) ≡ false

-- a `!` is, and no mark below 2^64
pub record RefusesMarkBehind {S : Type 0} (old : StateStream S) (fault : ParseFault) : Type 0 where
  pub here : StateStream S
  pub spaces : SkipsSpaces old here
  pub there : begins_with_mark (left here.position) ≡ true
  pub behind : StateStream S
  pub why : RefusesMark here behind fault

-- the section so far, the parser with what it keeps, and the stream
abbrev pub Behind : (F S A : Type 0) → Type 0
Behind F S A = Section A (Location A) × At F S

-- `=` (61) and an entry were read behind a mark, whose index isn't in the section so far. The entry comes last in it.
pub record ReadsBehind {F S A : Type 0} (parser : Parser F S A) (p : Behind F S A) (item : ℕ × Entry A (Location A)) (q : Behind F S A) : Type 0 where
  pub fresh : entry_among p.0 item.0 ≡ None
  pub behind_sign : StateStream S
  pub equals : ReadsSign 61 p.1.1 behind_sign
  pub entry_read : ReadsEntry parser (p.1.0, behind_sign) item.1 q.1
  pub last : q.0 ≡ p.0 ++ (item.0, entry_of item.1) ∷ []

-- A mark and an entry were read. They leave less to be read than there was: that could be otherwise only behind a parser that goes back in
-- the text.
pub record ReadsItem {F S A : Type 0} (parser : Parser F S A) (p : Behind F S A) (item : ℕ × Entry A (Location A)) (q : Behind F S A) : Type 0 where
  pub here : StateStream S
  pub behind_mark : StateStream S
  pub mark : ReadsIndex p.1.1 here item.0 behind_mark
  pub behind : ReadsBehind parser (p.0, (p.1.0, behind_mark)) item q
  pub takes : bytes_left q.1.1.position < bytes_left p.1.1.position

-- These entries with their marks were read, one after another, behind a section so far.
abbrev pub AreItems : {F S A : Type 0} → Parser F S A → Behind F S A → List (ℕ × Entry A (Location A)) → Behind F S A → Type 0
AreItems parser = FoldsTo (ReadsItem parser)

-- some were read
abbrev pub ReadsItems : {F S A : Type 0} → Parser F S A → Behind F S A → Behind F S A → Type 0
ReadsItems {A = A} parser p q = (items : List (ℕ × Entry A (Location A))) × AreItems parser p items q

-- Entries were read, up to where no mark is behind the white space, and they are the section.
pub record ReadsEntries {F S A : Type 0} (parser : Parser F S A) (v : At F S) (section : Section A (Location A)) (w : At F S) : Type 0 where
  pub read : ReadsItems parser ([], v) (section, w)
  pub ends : IsWithoutMark w.1

-- `:` (58) and the entries were read.
abbrev pub ReadsBehindWord : {F S A : Type 0} → Parser F S A → At F S → Section A (Location A) → At F S → Type 0
ReadsBehindWord {F} {S} parser v section w = (start : At F S) × Takes 58 v start × ReadsEntries parser start section w

-- That was read behind the word.
abbrev pub ReadsSection : {F S A : Type 0} → Parser F S A → At F S → Section A (Location A) → At F S → Type 0
ReadsSection {F} {S} parser v section w =
    (behind : StateStream S) × ReadsWord v.1 behind × ReadsBehindWord parser (v.0, behind) section w

-- ---- refusals

-- why no entry was read behind its mark, which is at this place: its index is in the section so far; no `=` is behind the mark; the entry is
-- refused; or memory was
abbrev pub RefusesBehind : {F S A : Type 0} → Parser F S A → Behind F S A → Mark → ParseFault → Type 0
RefusesBehind {F} {S} parser p mark fault =
    ((is_some (entry_among p.0 mark.index) ≡ true) × IsFaultAt mark.place OutlineRedefined fault)
    ⊎ (MissesSign 61 p.1.1 fault
    ⊎ (((behind_sign : StateStream S) × ReadsSign 61 p.1.1 behind_sign × RefusesEntry parser (p.1.0, behind_sign) fault)
    ⊎ IsMemory fault))

-- why the next mark with its entry isn't read: the mark is refused; what is behind it is; or both take nothing
abbrev pub RefusesItem : {F S A : Type 0} → Parser F S A → Behind F S A → ParseFault → Type 0
RefusesItem {F} {S} {A} parser p fault =
    RefusesMarkBehind p.1.1 fault
    ⊎ ((mark : Mark) × (behind_mark : StateStream S) × ReadsMark p.1.1 mark behind_mark
    × (RefusesBehind parser (p.0, (p.1.0, behind_mark)) mark fault
    ⊎ ((entry : Entry A (Location A)) × (q : Behind F S A) × ReadsBehind parser (p.0, (p.1.0, behind_mark)) (mark.index, entry) q
    × (fault.cause ≡ Syntax) × (bytes_left p.1.1.position ≤ bytes_left q.1.1.position))))

-- why the entries weren't read, behind some that were
abbrev pub RefusesEntries : {F S A : Type 0} → Parser F S A → At F S → ParseFault → Type 0
RefusesEntries {F} {S} {A} parser v fault = (q : Behind F S A) × ReadsItems parser ([], v) q × RefusesItem parser q fault

-- no `:` is there, or the entries behind it are refused
abbrev pub RefusesBehindWord : {F S A : Type 0} → Parser F S A → At F S → ParseFault → Type 0
RefusesBehindWord {F} {S} parser v fault =
    MissesSign 58 v.1 fault ⊎ ((start : At F S) × Takes 58 v start × RefusesEntries parser start fault)

-- the word is refused; or what is behind it, and the fault says that something was read before it
abbrev pub RefusesSection : {F S A : Type 0} → Parser F S A → At F S → ParseFault → Type 0
RefusesSection {F} {S} parser v fault =
    RefusesWord v.1 fault
    ⊎ ((behind : StateStream S) × ReadsWord v.1 behind × (inner : ParseFault) × (fault ≡ as_consumed inner)
    × RefusesBehindWord parser (v.0, behind) inner)

-- No section begins here, whatever the parser keeps.
abbrev pub HasNoSection : {F S A : Type 0} → Parser F S A → StateStream S → Type 0
HasNoSection {F} {S} {A} parser old = (f : F) (section : Section A (Location A)) (w : At F S) → ReadsSection parser (f, old) section w → ⊥
