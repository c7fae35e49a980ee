-- What is read from a stream is a text of its characters.
use Rattle.std.proofs.Common.{refl, sym, ap, subst, inl, inr, ℕ, suc, zero, Bool, List, [], ◌∷◌, ◌++◌, Option, None, Some, Ok}
use Rattle.std.specs.Str.Parse.{ParsesUnsigned}
use Rattle.std.specs.declared.num.ParseIntError.{ParseIntError}
use Rattle.ir_locations.specs.declared.location.Location.{Location}
use Rattle.ir_locations.specs.declared.source.Source.{Source}
use Rattle.ir_locations.specs.declared.source.Source.TheVariants as sources
use Rattle.text_streams.specs.declared.stream.StateStream.{StateStream}
use Rattle.text_streams.specs.Positions.{left}
use Rattle.text_locations.specs.declared.firsts.First.{First}
use Rattle.text_locations.specs.declared.firsts.First.TheVariants as firsts
use Rattle.text_locations.specs.declared.places.Digits.{Digits}
use Rattle.text_locations.specs.declared.tokens.Token.{Token}
use Rattle.text_locations.specs.declared.tokens.Token.TheVariants.{Unknown, Comma, Closes, Less}
use Rattle.text_locations.specs.Tokens.{ReadsTokenHere, ReadsToken, IsWithout, ReadsQuotedHere}
use Rattle.text_locations.specs.Places.{ReadsDigits, ReadsLabelled, Says}
use Rattle.text_locations.specs.Firsts.{ReadsFirst, ReadsSource}
use Rattle.text_locations.specs.Locations.{Parser, At, Reader, ReadsMetadata, ReadsNext, AreRead, ReadsMembers, ReadsLast, ReadsBehind, ReadsLocation, has_room}
use Rattle.text_locations.specs.Texts.{IsTokenHere, IsToken, HasNoToken, IsQuotedHere, IsNumber, IsLabelled, IsSource, MetadataTexts, AnsweredTexts, IsMetadataPart, LocationTexts, IsNext, AreFurther, AreMembers, IsLast, IsForm, IsLocationText}

-- the characters from there on
abbrev text : {F S : Type 0} → At F S → List ℕ
text v = left v.1.position

token_here : {S : Type 0} (token : Token) (old new : StateStream S) → ReadsTokenHere token old new → IsTokenHere token (left old.position) (left new.position)
token_here token old new h = record { there = h.there; is = h.reads.behind.taken }

token_text_is : {S : Type 0} (token : Token) (old new : StateStream S) → ReadsToken token old new → IsToken token (left old.position) (left new.position)
token_text_is token old new h = (left h.here.position, h.spaces.behind.taken, token_here token h.here new h.token_read)

no_token : {S : Type 0} (token : Token) (old : StateStream S) → IsWithout token old → HasNoToken token (left old.position)
no_token token old h = (left h.here.position, h.spaces.behind.taken, h.without)

quoted_here : {S : Type 0} (old new : StateStream S) (name : _) → ReadsQuotedHere old name new → IsQuotedHere (left old.position) name (left new.position)
quoted_here old new name h = record { said = h.said; there = h.there; says = h.says; is = h.reads.behind.taken }

number_is : {S : Type 0} (old new : StateStream S) (digits : Digits) (number : ℕ) → ReadsDigits old digits new → Says digits number →
    IsNumber (left old.position) number (left new.position)
number_is old new digits number h says =
    let P : List ℕ → Type 0 = λ bytes. ParsesUnsigned {E = ParseIntError} 64 10 bytes (Ok number) in
    record { here = left h.here.position; spaces = h.spaces.behind.taken; there = h.there; says = subst P h.text says; is = h.reads.behind.taken }

labelled_is : {S : Type 0} (token label : Token) (old new : StateStream S) (digits : Digits) (number : ℕ) → ReadsLabelled token label old digits new → Says digits number →
    IsLabelled token label (left old.position) number (left new.position)
labelled_is token label old new digits number h says = (
  left h.behind_token.position,
  token_text_is token old h.behind_token h.token_read,
  left h.behind_label.position,
  token_text_is label h.behind_token h.behind_label h.label_read,
  left h.behind_colon.position,
  token_text_is _ h.behind_label h.behind_colon h.colon_read,
  number_is h.behind_colon new digits number h.digits_read says,
)

source_is : {S : Type 0} (old new : StateStream S) (source : Source) → ReadsSource old source new → IsSource (left old.position) source (left new.position)
source_is old new sources.InMemory h = token_here _ old new h
source_is old new (sources.File name) h = quoted_here old new name h

module _ {F S A : Type 0} (parser : Parser F S A) where
  abbrev texts : MetadataTexts A
  texts = AnsweredTexts parser

  metadata_is : (room : Bool) (v w : At F S) (metadata : Option A) → ReadsMetadata parser room v metadata w → IsMetadataPart texts room (text v) metadata (text w)
  metadata_is room v w None h = (no_token Less v.1 h.0, ap (λ (x : At F S). text x) h.1)
  metadata_is room v w (Some a) h = (
    h.0,
    text h.1,
    token_text_is _ v.1 h.1.1 h.2.0,
    text h.3,
    h.4.0.behind.taken,
    text h.5,
    (h.3, h.5, h.6, refl, refl),
    token_text_is _ h.5.1 w.1 h.7.0,
  )

  module _ (inner : Reader F S A) (inside : LocationTexts A) (is : (v : At F S) (l : Location A) (w : At F S) → inner v l w → inside (text v) l (text w)) where
    next_is : (v : At F S) (l : Location A) (w : At F S) → ReadsNext inner v l w → IsNext inside (text v) l (text w)
    next_is v l w h = (text h.0, h.1.0.behind.taken, is h.0 l w h.2)

    last_is : (v : At F S) (l : Location A) (w : At F S) → ReadsLast inner v l w → IsLast inside (text v) l (text w)
    last_is v l w h = (text h.0, next_is v l h.0 h.1, token_text_is _ h.0.1 w.1 h.2.0)

    -- members behind a first one, up to the last
    further_are : (v : At F S) (cs : List ℕ) (others : List (Location A)) (at : At F S) (last : Location A) (end w : At F S) → IsToken Comma cs (text v) →
        AreRead inner v others at → ReadsNext inner at last end → ReadsToken Closes end.1 w.1 → AreFurther inside (others ++ last ∷ []) cs (text w)
    further_are v cs [] at last end w comma read h closes =
        let P : At F S → Type 0 = λ x. IsNext inside (text x) last (text end) in
        (text v, comma, text end, subst P (sym read) (next_is at last end h), token_text_is _ end.1 w.1 closes)
    further_are v cs (l ∷ others) at last end w comma read h closes = (
      text v,
      comma,
      text read.1.end,
      next_is v l read.1.end read.1.read,
      further_are read.0 (text read.1.end) others at last end w (token_text_is _ read.1.end.1 read.0.1 read.1.comma.0) read.2 h closes,
    )

    some_are : (v : At F S) (others : List (Location A)) (at : At F S) (last : Location A) (end w : At F S) →
        AreRead inner v others at → ReadsNext inner at last end → ReadsToken Closes end.1 w.1 → AreMembers inside (others ++ last ∷ []) (text v) (text w)
    some_are v [] at last end w read h closes =
        let P : At F S → Type 0 = λ x. IsNext inside (text x) last (text end) in
        (text end, subst P (sym read) (next_is at last end h), token_text_is _ end.1 w.1 closes)
    some_are v (l ∷ others) at last end w read h closes = (
      text read.1.end,
      next_is v l read.1.end read.1.read,
      further_are read.0 (text read.1.end) others at last end w (token_text_is _ read.1.end.1 read.0.1 read.1.comma.0) read.2 h closes,
    )

    members_are : (v : At F S) (ls : List (Location A)) (w : At F S) → ReadsMembers inner v ls w → AreMembers inside ls (text v) (text w)
    members_are v ls w h =
        let P : List (Location A) → Type 0 = λ xs. AreMembers inside xs (text v) (text w) in
        elim h [
          | inl none ↦ subst P (sym none.0) (token_text_is _ v.1 w.1 none.1.0)
          | inr some ↦ subst P (sym some.all) (some_are v some.others some.at some.last some.end w some.read some.last_read some.closes.0)
        ]

    form_is : (depth : ℕ) (v : At F S) (l : Location A) (w : At F S) (first : First) (behind : StateStream S) → ReadsFirst v.1 first behind →
        ReadsBehind parser (has_room depth) inner first (v.0, behind) l w → IsForm texts (has_room depth) inside (text v) l (text w)
    form_is depth v l w firsts.Unknown behind h k =
        let P : At F S → Type 0 = λ x. IsTokenHere Unknown (text v) (text x) in
        inl (k.0, subst P (sym k.1) (token_here _ v.1 behind h))
    form_is depth v l w (firsts.Source source) behind h k = inr (inl (record {
      source = source;
      line = k.0.0;
      column = k.0.1;
      is = k.1;
      behind = left behind.position;
      source_text = source_is v.1 behind source h;
      between = left k.2.between.position;
      line_text = labelled_is _ _ behind k.2.between k.2.line k.0.0 k.2.line_read k.2.line_says;
      column_text = labelled_is _ _ k.2.between w.1 k.2.column k.0.1 k.2.column_read k.2.column_says;
    }))
    form_is depth v l w firsts.Fused behind h k = inr (inr (inl (record {
      metadata = k.metadata;
      members = k.members;
      is = k.is;
      behind = left behind.position;
      word = token_here _ v.1 behind h;
      between = text k.behind;
      metadata_text = metadata_is (has_room depth) (v.0, behind) k.behind k.metadata k.metadata_read;
      opened = text k.opened;
      opens = token_text_is _ k.behind.1 k.opened.1 k.opens.0;
      members_text = members_are k.opened k.members.items w k.members_read;
    })))
    form_is depth v l w firsts.Named behind h k = inr (inr (inr (inl (record {
      name = k.name;
      child = k.child;
      is = k.is;
      behind = left behind.position;
      word = token_here _ v.1 behind h;
      opened = left k.name_read.opened.position;
      opens = token_text_is _ behind k.name_read.opened k.name_read.opens;
      here = left k.name_read.here.position;
      spaces = k.name_read.spaces.behind.taken;
      named = left k.name_read.named.position;
      name_text = quoted_here k.name_read.here k.name_read.named k.name k.name_read.quoted;
      between = left k.behind.position;
      comma = token_text_is _ k.name_read.named k.behind k.name_read.comma;
      child_text = last_is (v.0, k.behind) k.child.value w k.child_read;
    }))))
    form_is depth v l w firsts.CallSite behind h k = inr (inr (inr (inr (record {
      callee = k.callee;
      caller = k.caller;
      is = k.is;
      behind = left behind.position;
      word = token_here _ v.1 behind h;
      opened = text k.opened;
      opens = token_text_is _ behind k.opened.1 k.opens.0;
      end = text k.between;
      callee_text = next_is k.opened k.callee.value k.between k.callee_read;
      between = text k.behind;
      comma = token_text_is _ k.between.1 k.behind.1 k.comma.0;
      caller_text = last_is k.behind k.caller.value w k.caller_read;
    }))))

  -- a location was read, and so its text is there
  pub text_is : (depth : ℕ) (v : At F S) (l : Location A) (w : At F S) → ReadsLocation parser depth v l w → IsLocationText texts depth (text v) l (text w)
  unfolding ReadsLocation IsLocationText
  text_is zero v l w h = h
  text_is (suc depth) v l w h = form_is (ReadsLocation parser depth) (IsLocationText texts depth) (λ x y z k. text_is depth x y z k) depth v l w h.0 h.1 h.2 h.3
