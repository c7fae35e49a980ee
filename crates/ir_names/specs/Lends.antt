-- What an attribute dictionary, or a map within it, ends as, where a `&mut` to one of its attributes is returned.
use Rattle.std.specs.Prelude.{ℕ, List, Option, Some, None, String}
use Rattle.std.specs.Borrow.{LendsIf, Fml, RattleType, MutBor}
use Rattle.std.specs.HashMap.Lent.{HashMembers}
use Rattle.std.specs.declared.alloc.Global.{Global}
use Rattle.std.specs.declared.cmp.PartialEq as equality
use Rattle.std.specs.contracts.option.Option.{the_row as option_row}
use Rattle.indexmap.specs.IndexMap.{set_value_at}
use Rattle.ir_names.specs.declared.dictionary.Entry.{Entry}
use Rattle.ir_names.specs.contracts.dictionary.AttributeDict.{the_row}
use Rattle.ir_names.specs.contracts.dictionary.Entry.{the_row as the_entry_row}
use Rattle.ir_names.specs.contracts.lazy_map.LazyMap.{the_row as the_map_row}
use Rattle.ir_names.specs.Dictionary.{with_attribute}

-- the entry with another attribute, if there is one
abbrev pub with_first_attribute : {D K A T : Type 0} → Option (Entry D K A T) → A → Option (Entry D K A T)
with_first_attribute None w = None
with_first_attribute (Some e) w = Some (record e { attr = w })

module _ (X : RattleType) where
  -- the value at the index is the last one written through r, and at `None` nothing changes
  abbrev pub lends_at : MutBor (List (String Global × X.Denot)) → ℕ → Option (MutBor X.Denot) → Fml
  lends_at s index r = LendsIf (the_map_row X) X s r (set_value_at s.now index) s.now

module _ (D K A T : RattleType) where
  -- the entry has the last attribute written through r
  abbrev pub lends_first : MutBor (Option (Entry D.Denot K.Denot A.Denot T.Denot)) → Option (MutBor A.Denot) → Fml
  lends_first s r = LendsIf (option_row (the_entry_row D K A T)) A s r (with_first_attribute s.now) s.now

module _ (D K A T : RattleType) (k : equality.Ghosts K.Denot) (a : HashMembers A.Denot) (t : HashMembers T.Denot) where
  -- the dictionary's type, as the logic holds it
  abbrev pub dictionary_row : RattleType
  dictionary_row =
      the_row D K A T k (record { eq = a.eq }) (record { hash_input = a.hash_input }) (record { eq = t.eq }) (record { hash_input = t.hash_input })

  -- the last attribute written through r stands under the name, in the place of what stood there, and at `None` nothing changes
  abbrev pub lends_attribute : MutBor (List (List ℕ × A.Denot)) → List ℕ → Option (MutBor A.Denot) → Fml
  lends_attribute s key r = LendsIf dictionary_row A s r (with_attribute s.now key) s.now
