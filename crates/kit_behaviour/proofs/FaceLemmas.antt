-- Which functions there are, and how many arguments they take.
use Rattle.std.proofs.Common.{◌≡◌, ℕ, Bool, List, [], ◌∷◌, length, Option, Some, None, refl, ap, ◌∙◌}
use Rattle.std.specs.Prelude.{not, if◌then◌else◌}
use Rattle.kit_behaviour.specs.Machine.{Fun, FunctionsByPath, arguments_in}
use Rattle.kit_behaviour.specs.Facts.{FunctionFacts}
use Rattle.kit_behaviour.specs.Rules.{Rules}
use Rattle.kit_behaviour.specs.InsertedConstants.{same_name}
use Rattle.kit_behaviour.specs.ConstantPropagation.{Wants, with_facts, IsSccpOfFunctions}
use Rattle.kit_behaviour.specs.RemovedValues.{live, thin, AllLive}
use Rattle.kit_behaviour.specs.DeadValues.{IsDceOfFunctions}
use Rattle.kit_behaviour.specs.Numbering.{place_fun}
use Rattle.kit_behaviour.specs.SimplifiedBlocks.{constants, keep, join_fun, branched}
use Rattle.kit_behaviour.proofs.ControlFlow.PlacesJoined.{replaced_args, IsSimplify}
use Rattle.kit_behaviour.specs.PassLists.{is_there, SameFaces}
use Rattle.kit_behaviour.specs.Places.{Place, same_place}
use Rattle.kit_behaviour.proofs.Behaviour.SizeLemmas.{length_map}
use Rattle.kit_behaviour.proofs.Numbering.PlaceEquality.{place_law}
use Rattle.kit_behaviour.proofs.Numbering.NumberingBehaviour.{place_takes}
use Rattle.kit_behaviour.proofs.Lattice.DecisionBehaviour.{decide_takes}
use Rattle.kit_behaviour.proofs.Propagation.PropagationRules.{facts_args}
use Rattle.kit_behaviour.proofs.DeadCode.RemovalBehaviour.{thin_takes}
use Rattle.kit_behaviour.proofs.DeadCode.DeadMayGo.{dead_may_go}
use Rattle.kit_behaviour.proofs.ControlFlow.DecisionRules.{decide_rules}
use Rattle.kit_behaviour.proofs.ControlFlow.KeptBlocks.{keep_takes}
use Rattle.kit_behaviour.proofs.ControlFlow.ChainLemmas.{entry_free}
use Rattle.kit_behaviour.proofs.ControlFlow.JoiningPremises.{join_takes, same_takes}
use Rattle.kit_behaviour.proofs.ControlFlow.SimplifyBehaviour.{reach_entry, kept_lives, kept_rules}

-- constant propagation

sccp_there : (want : Wants) (f : Option (Fun Place)) (k : FunctionFacts Place) → is_there (place_fun (same_name same_place) (with_facts want f k)) ≡ is_there f
sccp_there want None k = refl
sccp_there want (Some f) k = refl

pub sccp_faces : (want : Wants) (p q : FunctionsByPath Place) → ((path : List ℕ) → Rules (p path)) → IsSccpOfFunctions want p q → SameFaces p q
sccp_faces want p q rules is =
    record {
      there = λ path. ap is_there (is.is path) ∙ sccp_there want (p path) (is.facts path);
      entry = λ path. ap (λ x. length (arguments_in x 0)) (is.is path) ∙ facts_args want (p path) (is.facts path) (rules path) 0;
    }

-- removal

thin_there : (f : Option (Fun Place)) (d : Place → Bool) → is_there (place_fun same_place (thin d f)) ≡ is_there f
thin_there None d = refl
thin_there (Some f) d = refl

live_all : (d : Place → Bool) (vs : List Place) → AllLive d vs → live d vs ≡ vs
live_all d [] h = refl
live_all d (v ∷ vs) h = ap (λ b. if b then live d vs else v ∷ live d vs) h.0 ∙ ap (λ l. v ∷ l) (live_all d vs h.1)

pub dce_faces : (p q : FunctionsByPath Place) → IsDceOfFunctions p q → SameFaces p q
dce_faces p q is =
    record {
      there = λ path. ap is_there (is.is path) ∙ thin_there (p path) (is.set path);
      entry = λ path.
          ap (λ x. length (arguments_in x 0)) (is.is path)
          ∙ ap length (place_takes same_place place_law (thin (is.set path) (p path)) 0) ∙ length_map _ (arguments_in (thin (is.set path) (p path)) 0)
          ∙ ap length (thin_takes (is.set path) (p path) 0 ∙ live_all (is.set path) (arguments_in (p path) 0) (dead_may_go same_place place_law (p path) (is.set path) (is.dead path)).entry);
    }

-- control flow

keep_there : (r : ℕ → Bool) (f : Option (Fun Place)) → is_there (place_fun same_place (keep r (branched f))) ≡ is_there f
keep_there r None = refl
keep_there r (Some f) = refl

join_there : (j r : ℕ → Bool) (s : Place → Place) (k : ℕ) (f : Option (Fun Place)) → is_there (place_fun same_place (keep r (join_fun j k (replaced_args j s f)))) ≡ is_there f
join_there j r s k None = refl
join_there j r s k (Some f) = refl

pub simplify_faces : (p q : FunctionsByPath Place) → ((path : List ℕ) → Rules (p path)) → IsSimplify p q → SameFaces p q
simplify_faces p q rules is =
    record {
      there = λ path.
          let m = (is.each path).merges in
          ap is_there m.is ∙ join_there m.taken (λ b. not (m.taken b)) m.names m.most (place_fun same_place (keep (is.each path).reach (branched (p path)))) ∙ keep_there (is.each path).reach (p path);
      entry = λ path.
          let e = is.each path in
          let m = e.merges in
          let b = branched (p path) in
          let h = keep e.reach b in
          let f = place_fun same_place h in
          let decided = decide_rules (constants (p path)) (p path) (rules path) in
          let kept = kept_rules b e.reach e.reached decided in
          let lives = kept_lives b e.reach e.reached in
          let free = entry_free f m.taken m.is_taken in
          let g = join_fun m.taken m.most (replaced_args m.taken m.names f) in
          ap (λ x. length (arguments_in x 0)) m.is
          ∙ ap length (place_takes same_place place_law (keep (λ b. not (m.taken b)) g) 0) ∙ length_map _ (arguments_in (keep (λ b. not (m.taken b)) g) 0)
          ∙ ap length (keep_takes (λ b. not (m.taken b)) g 0 (ap not free) ∙ join_takes m.taken m.most (replaced_args m.taken m.names f) 0 ∙ same_takes f kept m.taken m.is_taken m.names m.follows lives m.most m.long 0 free)
          ∙ ap length (place_takes same_place place_law h 0) ∙ length_map _ (arguments_in h 0)
          ∙ ap length (keep_takes e.reach b 0 (reach_entry b e.reach e.reached) ∙ decide_takes (constants (p path)) (p path) 0);
    }

pub faces_trans : (p q r : FunctionsByPath Place) → SameFaces p q → SameFaces q r → SameFaces p r
faces_trans p q r a b = record { there = λ path. b.there path ∙ a.there path; entry = λ path. b.entry path ∙ a.entry path }
