-- How reading, decoding and writing end, each by cases on the whole answer.
use Rattle.std.specs.Prelude.{◌≡◌, ℕ, ◌+◌, ◌≤◌, ◌<◌, ◌⊎◌, true, false, List, Option, Result, Ok, Err, length, take, IsUtf8, chars}
use Rattle.std.specs.Str.Lossy.{utf8_valid_len}
use Rattle.irkit_streams.specs.declared.faults.ReadFault.{ReadFault}
use Rattle.irkit_streams.specs.declared.faults.ReadFault.TheVariants as read
use Rattle.irkit_streams.specs.declared.faults.DecodeFault.{DecodeFault}
use Rattle.irkit_streams.specs.declared.faults.DecodeFault.TheVariants as decode
use Rattle.irkit_streams.specs.declared.faults.WriteFault.{WriteFault}
use Rattle.irkit_streams.specs.declared.watched.Watched.{Watched}
use Rattle.irkit_streams.specs.Streams.{has_failed, calls_of, counted, ends_of, Gave, HasNoByteLeft, Took}

module _ {R : Type 0} (remaining : R → Option (List ℕ)) (old new : Watched R) where
  -- The reader was called exactly so many times and never met the end: no call failed, and each gave a byte at least. So
  -- together they gave at least so many bytes.
  pub record NeverEnds (limit : ℕ) : Type 0 where
    pub bytes : List ℕ
    pub gave : Gave remaining old new bytes
    pub called : calls_of new ≡ counted (calls_of old + limit)
    pub unended : ends_of new ≡ ends_of old
    pub unfailed : has_failed new ≡ false
    pub many : limit ≤ length bytes

  -- A call failed, or none did and the end wasn't met in so many calls.
  abbrev pub FailsReading : ℕ → Type 0
  FailsReading limit = (has_failed new ≡ true) ⊎ NeverEnds limit

  -- The reader gave these bytes, then the end was met, and no call failed.
  abbrev pub GaveAll : List ℕ → Type 0
  GaveAll bytes = Gave remaining old new bytes × HasNoByteLeft remaining new × (has_failed new ≡ false)

  -- Reading to the end: all bytes, or a fault. A reader that meets its end in fewer calls than the limit is refused only where a
  -- call failed.
  abbrev pub EndsReading : {V : Type 0} → ℕ → (V → List ℕ) → Result V ReadFault → Type 0
  EndsReading limit items (Ok v) = GaveAll (items v)
  EndsReading limit items (Err read.Read) = FailsReading limit
  EndsReading limit items (Err read.Memory) = has_failed new ≡ false

-- The bytes are no UTF-8, and this is the first that isn't part of valid UTF-8.
abbrev pub IsNotUtf8 : List ℕ → ℕ → Type 0
IsNotUtf8 bytes at = (at ≡ utf8_valid_len bytes) × (IsUtf8 bytes → ⊥)

-- The characters of these bytes, or the first byte that is no part of valid UTF-8.
abbrev pub Decodes : List ℕ → {V : Type 0} → (V → List ℕ) → Result V DecodeFault → Type 0
Decodes bytes items (Ok v) = IsUtf8 bytes × (items v ≡ chars bytes)
Decodes bytes items (Err (decode.NotUtf8 at)) = IsNotUtf8 bytes at
Decodes bytes items (Err decode.Memory) = Unit {0}

module _ {W : Type 0} (contents : W → Option (List ℕ)) (old new : Watched W) (text : List ℕ) where
  -- The writer took the whole text.
  abbrev pub TookAll : Type 0
  TookAll = Took contents old new text × (has_failed new ≡ false)

  -- The writer took exactly the first b bytes of the text, and then failed.
  abbrev pub TookFirst : ℕ → Type 0
  TookFirst b = (b < length text) × Took contents old new (take b text) × (has_failed new ≡ true)

  -- Writing a text.
  abbrev pub EndsWriting : {X : Type 0} → Result X WriteFault → Type 0
  EndsWriting (Ok _) = TookAll
  EndsWriting (Err fault) = TookFirst fault.taken
