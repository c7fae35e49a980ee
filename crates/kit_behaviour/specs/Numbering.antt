-- Values named by their places again: the one numbering, so that equal functions are the same.
use Rattle.std.specs.Prelude.{◌≡◌, ℕ, suc, Bool, List, [], ◌∷◌, map, Option, Some, None, if◌then◌else◌, option_map}
use Rattle.std.specs.Prelude.{unwrap_or}
use Rattle.kit_behaviour.specs.Machine.{Op, Block, Fun, FunctionsByPath, left_in, arguments_in}
use Rattle.kit_behaviour.specs.Renaming.{rename_op, AllNamed, OpsNamed, same_block}
use Rattle.kit_behaviour.specs.Scopes.{defs}
use Rattle.kit_behaviour.specs.Places.{Place, Arg, Res}

-- where v comes first among these
abbrev pub index_of : {V : Type 0} → (V → V → Bool) → V → List V → Option ℕ
index_of same v [] = None
index_of same v (x ∷ xs) = if same v x then Some 0 else option_map suc (index_of same v xs)

-- the first, if there is one, else the second
abbrev pub or_else : {A : Type 0} → Option A → Option A → Option A
or_else None b = b
or_else (Some a) b = Some a

-- the place of v among the results of these operations, which are those of block b from the oth on
abbrev pub place_in_ops : {V : Type 0} → (V → V → Bool) → ℕ → ℕ → V → List (Op V) → Option Place
place_in_ops same b o v [] = None
place_in_ops same b o v (op ∷ ops) =
    or_else (option_map (Res b o) (index_of same v (defs op))) (place_in_ops same b (suc o) v ops)

-- the place of v in these blocks, which are those of the function from the bth on
abbrev pub place_in_blocks : {V : Type 0} → (V → V → Bool) → ℕ → V → List (Block V) → Option Place
place_in_blocks same b v [] = None
place_in_blocks same b v (k ∷ ks) =
    or_else (option_map (Arg b) (index_of same v k.arguments))
    (or_else (place_in_ops same b 0 v k.ops) (place_in_blocks same (suc b) v ks))

-- the place of v in the function: its first definition in the order of the text
abbrev pub place_of : {V : Type 0} → (V → V → Bool) → Fun V → V → Place
place_of same f v = unwrap_or (place_in_blocks same 0 v f) (Arg 0 0)

-- the place of v in a function, if the function has it
abbrev pub place_in : {V : Type 0} → (V → V → Bool) → Option (Fun V) → V → Place
place_in same None v = Arg 0 0
place_in same (Some f) v = place_of same f v

-- a block under the names that r gives
abbrev pub place_block : {V : Type 0} → (V → Place) → Block V → Block Place
place_block r b = record { arguments = map r b.arguments; ops = map (rename_op r same_block) b.ops }

-- a function whose values are named by their places: so equal functions are the same, whatever their names were
abbrev pub place_fun : {V : Type 0} → (V → V → Bool) → Option (Fun V) → Option (Fun Place)
place_fun same None = None
place_fun same (Some f) = Some (map (place_block (place_of same f)) f)

-- each function, its values named by their places
abbrev pub placed : {V : Type 0} → (V → V → Bool) → FunctionsByPath V → FunctionsByPath Place
placed same p path = place_fun same (p path)

-- the name is defined in the function
abbrev pub HasPlace : {V : Type 0} → (V → V → Bool) → Option (Fun V) → V → Type 0
HasPlace same None v = ⊥
HasPlace same (Some f) v = (a : Place) × (place_in_blocks same 0 v f ≡ Some a)

-- any number of a block
abbrev pub AnyBlock : ℕ → Type 0
AnyBlock b = Unit {0}

-- each name that occurs is defined
pub record NamesAreDefined {V : Type 0} (same : V → V → Bool) (f : Option (Fun V)) : Type 0 where
  pub ops : (b : ℕ) → OpsNamed (HasPlace same f) AnyBlock (left_in f b 0)
  pub arguments : (b : ℕ) → AllNamed (HasPlace same f) (arguments_in f b)
