-- What making, filling and linking change, and that all else stays.
use Rattle.std.specs.Prelude.{◌≡◌, ◌≢◌, ℕ, ◌<◌, List, [], ◌∷◌, ◌++◌, map, Option, Some, None, option_map, slice_get, length, take, Vec}
use Rattle.std.specs.Global.{Global}
use Rattle.ir_base.specs.declared.types.TypeHandle.{TypeHandle}
use Rattle.ir_names.specs.declared.identifier.Identifier.{Identifier}
use Rattle.ir_program.specs.Adds.{numbered_values}
use Rattle.ir_program.specs.Made.{IsNoneOf}
use Rattle.ir_program.specs.declared.handles.Ptr.{Ptr}
use Rattle.ir_program.specs.declared.handles.Operation.{Operation}
use Rattle.ir_program.specs.declared.handles.Region.{Region}
use Rattle.ir_program.specs.declared.handles.BasicBlock.{BasicBlock}
use Rattle.ir_program.specs.declared.handles.Value.{Value}
use Rattle.ir_program.specs.declared.handles.DefiningEntity.TheVariants.{Op as ByOp, Block as ByBlock}
use Rattle.ir_print.specs.Shown.{Pairs}
use Rattle.text_dialect.specs.Seen.{SeenOperation, SeenBlock, Seen}
use Rattle.text_frames.specs.building.Loose.{IsLooseOperation, IsLooseBlock, AreDistinctHandles}

-- the lists of these vectors
abbrev pub lists_of : {X : Type 0} → List (Vec X Global) → List (List X)
lists_of xss = map (λ xs. xs.items) xss

module _ {K A T : Type 0} (old new : Seen K A T) where
  -- b, under which there was nothing, is a block in no region with this label, no attributes, arguments of these types
  -- that are numbered from n on, and no operation; all else is as it was
  pub record OpensBlock (b : Ptr BasicBlock) (label : Option Identifier) (tys : List TypeHandle) (n : ℕ) : Type 0 where
    pub fresh : old.block b ≡ None
    pub made : new.block b
        ≡ Some (record {
          label = label;
          attributes = 0;
          arguments = numbered_values (ByBlock b) n tys;
          operations = [];
        })
    pub loose : IsLooseBlock new b
    pub others : (q : Ptr BasicBlock) → q ≢ b → new.block q ≡ old.block q
    pub operations : (p : Ptr Operation) → new.operation p ≡ old.operation p
    pub regions : (r : Ptr Region) → new.region r ≡ old.region r
    pub types : new.types ≡ old.types

  -- p, under which there was nothing, is an operation in no block of this kind, with these attributes, results of
  -- these types that are numbered from n on, no operands and no successors, and a region for each of the lists, which
  -- has the blocks of the list in this order; under the regions there was nothing; all else is as it was
  pub record MakesDetachedOperation (p : Ptr Operation) (kind : K) (attributes : List (List ℕ
      × A)) (tys : List TypeHandle) (n : ℕ)
      (bss : List (List (Ptr BasicBlock))) : Type 0 where
    pub handles : List (Ptr Region)
    pub fresh : old.operation p ≡ None
    pub fresh_regions : (k : ℕ) (r : Ptr Region) → slice_get handles k ≡ Some r → old.region r ≡ None
    pub distinct : AreDistinctHandles handles
    pub made : new.operation p ≡ Some (record {
      kind = kind;
      attributes = attributes;
      results = numbered_values (ByOp p) n tys;
      operands = [];
      successors = [];
      regions = handles;
    })
    pub filled : Pairs (λ r bs. new.region r ≡ Some bs) handles bss
    pub loose : IsLooseOperation new p
    pub others : (q : Ptr Operation) → q ≢ p → new.operation q ≡ old.operation q
    pub blocks : (b : Ptr BasicBlock) → new.block b ≡ old.block b
    pub regions : (r : Ptr Region) → IsNoneOf handles r → new.region r ≡ old.region r
    pub types : new.types ≡ old.types

  -- the region has these blocks behind those that it had, and all else is as it was
  pub record FillsRegion (r : Ptr Region) (bs : List (Ptr BasicBlock)) : Type 0 where
    pub filled : new.region r ≡ option_map (λ were. were ++ bs) (old.region r)
    pub others : (q : Ptr Region) → q ≢ r → new.region q ≡ old.region q
    pub operations : (p : Ptr Operation) → new.operation p ≡ old.operation p
    pub blocks : (b : Ptr BasicBlock) → new.block b ≡ old.block b
    pub types : new.types ≡ old.types

  -- each region has the blocks of the list beside it behind those that it had, and all else is as it was
  pub record FillsRegions (rs : List (Ptr Region)) (bss : List (List (Ptr BasicBlock))) : Type 0 where
    pub filled : Pairs (λ r bs. new.region r ≡ option_map (λ were. were ++ bs) (old.region r)) rs bss
    pub others : (q : Ptr Region) → IsNoneOf rs q → new.region q ≡ old.region q
    pub operations : (p : Ptr Operation) → new.operation p ≡ old.operation p
    pub blocks : (b : Ptr BasicBlock) → new.block b ≡ old.block b
    pub types : new.types ≡ old.types

  -- the operation p is the last of the block b, and all else is as it was
  pub record AppendsOperation (b : Ptr BasicBlock) (p : Ptr Operation) : Type 0 where
    pub appended : new.block b
        ≡ option_map (λ (v : SeenBlock). record v { operations = v.operations ++ p ∷ [] }) (old.block b)
    pub others : (q : Ptr BasicBlock) → q ≢ b → new.block q ≡ old.block q
    pub operations : (q : Ptr Operation) → new.operation q ≡ old.operation q
    pub regions : (r : Ptr Region) → new.region r ≡ old.region r
    pub types : new.types ≡ old.types

  -- the operation p takes these values behind its other operands, and may go on to these blocks behind its other successors; all
  -- else is as it was
  pub record LinksUses (p : Ptr Operation) (vs : List Value) (bs : List (Ptr BasicBlock)) : Type 0 where
    pub linked : new.operation p
        ≡ option_map (λ (o : SeenOperation K A). record o { operands = o.operands ++ vs; successors = o.successors ++ bs })
        (old.operation p)
    pub others : (q : Ptr Operation) → q ≢ p → new.operation q ≡ old.operation q
    pub blocks : (b : Ptr BasicBlock) → new.block b ≡ old.block b
    pub regions : (r : Ptr Region) → new.region r ≡ old.region r
    pub types : new.types ≡ old.types

  -- the operation p takes these values alone, or gets these successors alone
  abbrev pub LinksOperands : Ptr Operation → List Value → Type 0
  LinksOperands p vs = LinksUses p vs []

  abbrev pub LinksSuccessors : Ptr Operation → List (Ptr BasicBlock) → Type 0
  LinksSuccessors p bs = LinksUses p [] bs

  -- the operation p takes a front of these values behind its other operands, but not all of them; all else is as it was
  abbrev pub LinksSome : Ptr Operation → List Value → Type 0
  LinksSome p vs = (n : ℕ) × (n < length vs) × LinksOperands p (take n vs)

  -- it gets a front of these successors behind the others, but not all of them
  abbrev pub LinksSomeSuccessors : Ptr Operation → List (Ptr BasicBlock) → Type 0
  LinksSomeSuccessors p bs = (n : ℕ) × (n < length bs) × LinksSuccessors p (take n bs)
