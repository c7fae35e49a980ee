-- Steps that follow one another, and a whole pass.
use Rattle.std.proofs.Common.{◌≡◌, ℕ, ◌*◌, ◌≤◌, Bool, true, List, [], ◌∷◌, Option, Some, None, refl, ap, ◌∙◌, subst, arith}
use Rattle.std.specs.Prelude.{map, slice_get, option_map}
use Rattle.std.proofs.Math.Nat.{mul-le-mul_right}
use Rattle.std.proofs.lemmas.Option.{slice_get-map}
use Rattle.kit_behaviour.specs.Machine.{Op, Const, Calc, Emit, Call, Branch, Return, Block, Fun, FunctionsByPath, ops_left, left_in, arguments_of, arguments_in, start, run, FollowsWithin, Alike}
use Rattle.kit_behaviour.specs.RemovedValues.{thinned, FewGo}
use Rattle.kit_behaviour.specs.Renaming.{EdgeNamed, AllNamed, OpNamed, OpsNamed, Renames, same_block}
use Rattle.kit_behaviour.specs.Facts.{FunctionFacts, AreClosedFacts}
use Rattle.kit_behaviour.specs.Scopes.{OpScoped, BlocksWith}
use Rattle.kit_behaviour.specs.InsertedConstants.{OldOrNewName, Old, New, is_new, same_name, Made, old, put_in, use_of, with_constants, MayPut}
use Rattle.kit_behaviour.specs.Numbering.{placed}
use Rattle.kit_behaviour.specs.Places.{same_place}
use Rattle.kit_behaviour.proofs.Behaviour.FrameLemmas.{IsSameness}
use Rattle.kit_behaviour.proofs.Behaviour.SameEffects.{shown_trans}
use Rattle.kit_behaviour.proofs.Behaviour.RenamingLemmas.{renamed_alike}
use Rattle.kit_behaviour.proofs.DeadCode.RemovalBehaviour.{thin_alike}
use Rattle.kit_behaviour.proofs.Lattice.ReplacementBehaviour.{replaced_alike}
use Rattle.kit_behaviour.proofs.Propagation.InsertionLemmas.{old_block, old_fun, thin_put_in, put_may_go, name_facts, put_closed, put_known}
use Rattle.kit_behaviour.proofs.Propagation.ScopeLemmas.{put_scoped}
use Rattle.kit_behaviour.proofs.Numbering.DefinedNames.{scoped_defined, replaced_scoped}
use Rattle.kit_behaviour.proofs.Numbering.NumberingBehaviour.{placed_alike}
use Rattle.kit_behaviour.proofs.Behaviour.EdgeLemmas.{edges_any}

module _ {U V W : Type 0} (su : U → U → Bool) (sv : V → V → Bool) (sw : W → W → Bool) where
  follows_trans : (c d : ℕ) (p : FunctionsByPath U) (q : FunctionsByPath V) (r : FunctionsByPath W) → FollowsWithin su sv c p q → FollowsWithin sv sw d q r → FollowsWithin su sw (c * d) p r
  follows_trans c d p q r a b path xs n =
      let x = a path xs n in
      let y = b path xs x.0 in
      let le : x.0 * d ≤ n * c * d = mul-le-mul_right d x.1 in
      (y.0, omega (arith, y.1, le), shown_trans su sv sw (run su p n (start su p path xs)) (run sv q x.0 (start sv q path xs)) (run sw r y.0 (start sw r path xs)) x.2 y.2)

pub alike_trans : {U V W : Type 0} (su : U → U → Bool) (sv : V → V → Bool) (sw : W → W → Bool) (c d : ℕ) (p : FunctionsByPath U) (q : FunctionsByPath V) (r : FunctionsByPath W) → Alike su sv c p q → Alike sv sw d q r → Alike su sw (c * d) p r
alike_trans su sv sw c d p q r a b =
    record {
      there = follows_trans su sv sw c d p q r a.there b.there;
      back = λ path xs n. let x = follows_trans sw sv su d c r q p b.back a.back path xs n in let e : n * (d * c) ≡ n * (c * d) = omega arith in (x.0, subst (λ k. x.0 ≤ k) e x.1, x.2);
    }

pub alike_flip : {U V : Type 0} (su : U → U → Bool) (sv : V → V → Bool) (c : ℕ) (p : FunctionsByPath U) (q : FunctionsByPath V) → Alike su sv c p q → Alike sv su c q p
alike_flip su sv c p q a = record { there = a.back; back = a.there }

-- the names of what was there

pub same_name_law : {V : Type 0} (same : V → V → Bool) → IsSameness same → IsSameness (same_name same)
same_name_law {V} same law =
    record {
      true_same = true_name;
      same_true = self_name;
    }
  where
    true_name : (a b : OldOrNewName V) → same_name same a b ≡ true → a ≡ b
    true_name (Old a) (Old b) e = ap Old (law.true_same a b e)
    true_name (New a) (New b) e = ap New (law.true_same a b e)
    true_name (Old a) (New b) e = absurd (cc e)
    true_name (New a) (Old b) e = absurd (cc e)

    self_name : (a : OldOrNewName V) → same_name same a a ≡ true
    self_name (Old a) = law.same_true a
    self_name (New a) = law.same_true a

old_left_block : {V : Type 0} (o : Option (Block V)) → ops_left (option_map old_block o) 0 ≡ map old (ops_left o 0)
old_left_block None = refl
old_left_block (Some b) = refl

old_left : {V : Type 0} (f : Option (Fun V)) (b : ℕ) → left_in (old_fun f) b 0 ≡ map old (left_in f b 0)
old_left None b = refl
old_left (Some f) b = ap (λ o. ops_left o 0) (slice_get-map old_block f b) ∙ old_left_block (slice_get f b)

old_takes_block : {V : Type 0} (o : Option (Block V)) → arguments_of (option_map old_block o) ≡ map Old (arguments_of o)
old_takes_block None = refl
old_takes_block (Some b) = refl

old_takes : {V : Type 0} (f : Option (Fun V)) (b : ℕ) → arguments_in (old_fun f) b ≡ map Old (arguments_in f b)
old_takes None b = refl
old_takes (Some f) b = ap arguments_of (slice_get-map old_block f b) ∙ old_takes_block (slice_get f b)

abbrev Any : {V : Type 0} → V → Type 0
Any v = Unit {0}

abbrev AnyBlock : ℕ → Type 0
AnyBlock b = Unit {0}

all_any : {V : Type 0} (xs : List V) → AllNamed Any xs
all_any [] = tt
all_any (x ∷ xs) = (tt, all_any xs)

op_any : {V : Type 0} (op : Op V) → OpNamed Any AnyBlock op
op_any (Const r n) = tt
op_any (Calc a w r x y) = (tt, tt, tt)
op_any (Emit x) = tt
op_any (Call rs c xs) = (all_any rs, all_any xs)
op_any (Branch s xs e es) = (all_any xs, edges_any (EdgeNamed Any AnyBlock) (λ x. (tt, all_any x.forwards)) (e ∷ es))
op_any (Return xs) = all_any xs

ops_any : {V : Type 0} (ops : List (Op V)) → OpsNamed Any AnyBlock ops
ops_any [] = tt
ops_any (op ∷ ops) = (op_any op, ops_any ops)

old_renames : {V : Type 0} (f : Option (Fun V)) → Renames Old same_block Any AnyBlock f (old_fun f)
old_renames f =
    record {
      entry_stays = refl;
      entry_in = tt;
      left = λ b s. old_left f b;
      arguments = λ b s. old_takes f b;
      ops_named = λ b s. ops_any (left_in f b 0);
      takes_named = λ b s. all_any (arguments_in f b);
    }

module _ {V : Type 0} (same : V → V → Bool) (law : IsSameness same) (p : FunctionsByPath V) (k : List ℕ → FunctionFacts V) (m : List ℕ → Made V) (closed : (path : List ℕ) → AreClosedFacts (p path) (k path)) (scoped : (path : List ℕ) → BlocksWith (p path) (OpScoped (p path))) (may : (path : List ℕ) → MayPut (m path) (k path) (p path)) where
  abbrev Here : OldOrNewName V → OldOrNewName V → Bool
  Here = same_name same

  abbrev olds : FunctionsByPath (OldOrNewName V)
  olds path = old_fun (p path)

  abbrev puts : FunctionsByPath (OldOrNewName V)
  puts path = put_in (m path) (p path)

  abbrev news : List ℕ → OldOrNewName V → Bool
  news path = is_new

  old_alike : Alike same Here 1 p olds
  old_alike = renamed_alike same Here p olds (λ path. Old) (λ path. same_block) (λ path. Any) (λ path. AnyBlock) (λ path x y a b. refl) (λ path. old_renames (p path))

  -- thin as a program is the old one
  thin_is_old : thinned news puts ≡ olds
  thin_is_old = λ i path. thin_put_in (m path) (p path) i

  put_alike : (c : ℕ) → FewGo c news puts → Alike Here Here c olds puts
  put_alike c few =
      alike_flip Here Here c puts olds
      (subst (λ q. Alike Here Here c puts q) thin_is_old
      (thin_alike Here (same_name_law same law) puts news (λ path. put_may_go (m path) (p path)) c few))

  use_alike : Alike Here Here 1 puts (with_constants m p)
  use_alike =
      replaced_alike Here (same_name_law same law) puts (λ path. name_facts (k path)) (λ path. put_closed (m path) (k path) (p path) (may path) (closed path)) (λ path. use_of (m path)) (λ path. put_known (m path) (k path) (p path) (may path)) (λ path. put_scoped (m path) (p path) (may path).others (scoped path))

  pub sccp_alike : (c : ℕ) → FewGo c news puts → Alike same Here (1 * c * 1) p (with_constants m p)
  sccp_alike c few = alike_trans same Here Here (1 * c) 1 p puts (with_constants m p) (alike_trans same Here Here 1 c p olds puts old_alike (put_alike c few)) use_alike

  pub sccp_placed_alike : (c : ℕ) → FewGo c news puts → Alike same same_place (1 * c * 1 * 1) p (placed Here (with_constants m p))
  sccp_placed_alike c few =
      alike_trans same Here same_place (1 * c * 1) 1 p (with_constants m p) (placed Here (with_constants m p))
      (sccp_alike c few)
      (placed_alike Here (same_name_law same law) (with_constants m p)
      (λ path. scoped_defined Here (same_name_law same law) (with_constants m p path)
      (replaced_scoped (use_of (m path)) (puts path) (put_scoped (m path) (p path) (may path).others (scoped path)))))
