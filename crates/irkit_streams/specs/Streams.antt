-- What a watched reader gave and a watched writer took between two states.
use Rattle.std.specs.Prelude.{◌≡◌, ℕ, ◌-◌, ◌^◌, min, Bool, List, Option}
use Rattle.std.specs.Io.KnownBytes.{Consumes, Appends, IsAtEnd}
use Rattle.irkit_streams.specs.declared.watched.Watched.{Watched}

-- one of its calls has failed, or a write has taken none
abbrev pub has_failed : {T : Type 0} → Watched T → Bool
has_failed w = w.failed

-- what it watches
abbrev pub inner_of : {T : Type 0} → Watched T → T
inner_of w = w.inner

-- a count of calls stops at the largest number of 64 bits
abbrev pub counted : ℕ → ℕ
counted n = min n (2 ^ 64 - 1)

-- how often it was read
abbrev pub calls_of : {T : Type 0} → Watched T → ℕ
calls_of w = w.calls

-- how many of these reads gave no byte, as each does that meets the end
abbrev pub ends_of : {T : Type 0} → Watched T → ℕ
ends_of w = w.ends

-- from old to new it wasn't read
abbrev pub IsUnread : {T : Type 0} → Watched T → Watched T → Type 0
IsUnread old new = (calls_of new ≡ calls_of old) × (ends_of new ≡ ends_of old)

-- From old to new the reader gave these bytes and no others. `remaining` is the reader's own word, as `R.remaining`.
abbrev pub Gave : {R : Type 0} → (R → Option (List ℕ)) → Watched R → Watched R → List ℕ → Type 0
Gave remaining old new bytes = Consumes (remaining (inner_of old)) (remaining (inner_of new)) bytes

-- the reader has no byte left
abbrev pub HasNoByteLeft : {R : Type 0} → (R → Option (List ℕ)) → Watched R → Type 0
HasNoByteLeft remaining new = IsAtEnd (remaining (inner_of new))

-- From old to new the writer took these bytes and no others. `contents` is the writer's own word, as `W.contents`.
abbrev pub Took : {W : Type 0} → (W → Option (List ℕ)) → Watched W → Watched W → List ℕ → Type 0
Took contents old new bytes = Appends (contents (inner_of old)) (contents (inner_of new)) bytes
