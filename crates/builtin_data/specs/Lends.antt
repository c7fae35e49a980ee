-- What a dictionary ends as, where a `&mut` to one of its attributes is returned.
use Rattle.std.specs.Prelude.{◌≡◌, ℕ, List, Option, Some, IsSome}
use Rattle.std.specs.Borrow.{LendsSo, Fml, RattleType, MutBor}
use Rattle.builtin_data.specs.declared.dicts.DictAttr.{DictAttr}
use Rattle.builtin_data.specs.contracts.dicts.DictAttr.{the_row}
use Rattle.builtin_data.specs.Dicts.{SetsMember, member_at}

-- where the dictionary had an attribute under the key, this one is under it now, and under each other key what was there
abbrev pub WritesMember : {A : Type 0} → DictAttr A → DictAttr A → List ℕ → A → Type 0
WritesMember old new key attr = IsSome (member_at old key) → SetsMember old new key (Some attr)

module _ (A : RattleType) where
  -- the last attribute written through r is under the key, and under each other key what was there; at `None` nothing changes
  abbrev pub lends_member : MutBor (DictAttr A.Denot) → List ℕ → Option (MutBor A.Denot) → Fml
  lends_member s key r = LendsSo (the_row A) A s r (λ n w. WritesMember s.now n key w) (λ n. n ≡ s.now)
