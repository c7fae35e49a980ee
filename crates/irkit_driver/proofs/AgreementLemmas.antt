-- Runs of functions of what bytes say agree, whatever context they are read into, and with runs of what passes leave.
use Rattle.std.proofs.Common.{◌≡◌, ℕ, suc, ◌+◌, Bool, true, false, true≢false, List, [], ◌∷◌, Option, Some, None, IsSome, Result, Ok, Err}
use Rattle.std.proofs.Common.{refl, sym, ap, ◌∙◌, subst, map}
use Rattle.std.specs.Prelude.{reverse}
use Rattle.ir_forest.specs.Closed.{IsSameModule, unlabelled}
use Rattle.ir_names.specs.Identifier.{text_of}
use Rattle.ir_names.specs.declared.identifier.Identifier.{Identifier}
use Rattle.ir_program.specs.Replacing.{same_value}
use Rattle.ir_trees.proofs.OneTree.{one_tree}
use Rattle.ir_trees.specs.Stands.{by_handle}
use Rattle.ir_types.specs.Interned.{key_at}
use Rattle.kit.specs.Context.{KitTree}
use Rattle.kit_behaviour.specs.Laws.{AlikeWithin}
use Rattle.kit_behaviour.specs.Machine.{Fun, FunctionsByPath, run, start}
use Rattle.kit_behaviour.specs.PassLists.{is_there, SameFaces}
use Rattle.kit_behaviour.specs.Places.{Place, same_place}
use Rattle.kit_execution.specs.Laws.{ExistTogether, IsProgramIn, PathsMeet, program_path, RunsAsProgram}
use Rattle.kit_execution.specs.Numberings.{NumbersTextsApart}
use Rattle.kit_flat.specs.Machine as machine
use Rattle.kit_flat.specs.declared.outcome.Outcome.{Outcome}
use Rattle.kit_interpreter.specs.declared.executing.ExecFault.{ExecFault}
use Rattle.kit_interpreter.specs.declared.executing.ExecFault.TheVariants.{Memory, WrongPath, WrongArguments}
use Rattle.kit_ops.specs.declared.pass.KitPass.{KitPass}
use Rattle.kit_optimiser.specs.Functions.{function_content}
use Rattle.kit_optimiser.specs.Passed.{pass_of}
use Rattle.kit_optimiser.specs.Programs.{PassedPrograms}
use Rattle.kit_places.specs.Placed.{place_of}
use Rattle.kit_places.specs.Store.{module_code}
use Rattle.kit_places.specs.declared.places.Place as context
use Rattle.kit_ruled_views.specs.Operations.{operations_below}
use Rattle.kit_text_programs.specs.Laws.{TextsHaveOneProgram}
use Rattle.irkit_running.specs.Outcomes.{ExecutionGives, RunGives}
use Rattle.irkit_running.specs.Paths.{IsAnswerOfRun, names_in, SaysPath}
use Rattle.irkit_driver.specs.Executions.{AreRefusedAlike, ExecuteAlike, OneOutcome, OneRefusal}
use Rattle.irkit_driver.specs.Executions.{LongerShowsMore, OnePassExecutesAlike, SameAnywhere, WrittenExecuteAlike, WrittenRefuseAlike}
use Rattle.irkit_driver.specs.Programs.{AreRun, IsModule, SaysProgram}
use Rattle.irkit_driver.proofs.CutLemmas.{one_said}
use Rattle.irkit_driver.proofs.ModuleLemmas.{accepted_module, has_program}
use Rattle.irkit_driver.proofs.OutcomeLemmas.{followed, one_outcome, over_shown, shown_later, shows, Tells, tells, told}
use Rattle.irkit_driver.proofs.RunLemmas.{moved, one_program}
use Rattle.irkit_driver.proofs.TakingLemmas.{fitting_taken, FitWidths, taken_fit, text_widths, widths_taken}

mapped_twice : {X Y Z : Type 0} (f : Y → Z) (g : X → Y) (xs : List X) → map f (map g xs) ≡ map (λ x. f (g x)) xs
mapped_twice f g [] = refl
mapped_twice f g (x ∷ xs) = ap (λ l. f (g x) ∷ l) (mapped_twice f g xs)

there_is : (o : Option (Fun Place)) → IsSome o → is_there o ≡ true
there_is None h = cc
there_is (Some f) h = refl

none_there : (o : Option (Fun Place)) → o ≡ None → is_there o ≡ false
none_there o h = ap is_there h

-- ---- answers, by programs

-- the path of a word in programs
abbrev word_path : (List ℕ → ℕ) → List ℕ → List ℕ
word_path numbered word = reverse (map numbered (names_in word))

module _ (word xs : List ℕ) (there : Bool) (ws : List (Option ℕ)) where
  -- The word says a path, at which there is a function.
  abbrev HasPath : Type 0
  HasPath = ((path : List Identifier) × SaysPath word path) × (there ≡ true)

  -- An answer, where a function is at the path or not, and takes numbers of these widths; an outcome is that of this state
  -- of the program.
  abbrev SaysAnswer : (Outcome → Type 0) → Result Outcome ExecFault → Type 0
  SaysAnswer Told (Ok a) = HasPath × FitWidths ws xs × Told a
  SaysAnswer Told (Err Memory) = Unit {0}
  SaysAnswer Told (Err WrongPath) = (path : List Identifier) → SaysPath word path → there ≡ false
  SaysAnswer Told (Err WrongArguments) = HasPath × (FitWidths ws xs → ⊥)

  not_both : HasPath → ((path : List Identifier) → SaysPath word path → there ≡ false) → ⊥
  not_both h k = true≢false (sym h.1 ∙ k h.0.0 h.0.1)

  -- two answers of the same function
  refused_alike : (T U : Outcome → Type 0) (a b : Result Outcome ExecFault) → SaysAnswer T a → SaysAnswer U b → AreRefusedAlike a b
  refused_alike T U (Err Memory) b h k = tt
  refused_alike T U (Ok a) (Err Memory) h k = tt
  refused_alike T U (Ok a) (Ok b) h k = tt
  refused_alike T U (Ok a) (Err WrongPath) h k = not_both h.0 k
  refused_alike T U (Ok a) (Err WrongArguments) h k = k.1 h.1
  refused_alike T U (Err WrongPath) (Err Memory) h k = tt
  refused_alike T U (Err WrongPath) (Ok b) h k = not_both k.0 h
  refused_alike T U (Err WrongPath) (Err WrongPath) h k = tt
  refused_alike T U (Err WrongPath) (Err WrongArguments) h k = not_both k.0 h
  refused_alike T U (Err WrongArguments) (Err Memory) h k = tt
  refused_alike T U (Err WrongArguments) (Ok b) h k = h.1 k.1
  refused_alike T U (Err WrongArguments) (Err WrongPath) h k = not_both h.0 k
  refused_alike T U (Err WrongArguments) (Err WrongArguments) h k = tt

module _ (meets : PathsMeet) (runs : RunsAsProgram) (numbered : List ℕ → ℕ) (apart : NumbersTextsApart numbered)
    {bytes word xs : List ℕ} {n : ℕ} {answer : Result Outcome ExecFault} (e : ExecutionGives bytes word xs n answer) where
  abbrev tree : KitTree
  tree = e.accepted.0.holds.tree

  abbrev is_module : IsModule e.context tree
  is_module = accepted_module bytes e.context e.root e.accepted

  -- the program that the bytes say
  abbrev program : FunctionsByPath Place
  program = (has_program e.context numbered tree is_module).0

  says_program : SaysProgram numbered bytes program
  says_program = record {
    context = e.context;
    root = e.root;
    accepted = e.accepted;
    is = (has_program e.context numbered tree is_module).1;
  }

  program_in : IsProgramIn e.context e.root tree numbered program
  program_in = record {
    obeys = e.accepted.1;
    stands = e.accepted.0.holds.is_tree;
    names = is_module.names;
    types = is_module.types;
    numbering = apart;
    is = (has_program e.context numbered tree is_module).1;
  }

  -- where the word leads in programs, and what the function there takes
  abbrev at : List ℕ
  at = word_path numbered word

  abbrev widths_at : List ℕ → List (Option ℕ)
  widths_at l = widths_taken (key_at e.context.types) (function_content {N = by_handle} numbered (reverse l) tree)

  abbrev SaysIn : ℕ → Result Outcome ExecFault → Type 0
  SaysIn m a = SaysAnswer word xs (is_there (program at)) (widths_at at)
      (λ o. Tells {V = Place} (run same_place program m (start same_place program at xs)) o) a

  abbrev Says : Result Outcome ExecFault → Type 0
  Says a = SaysIn n a

  module _ (path : List Identifier) (says : SaysPath word path) where
    same_path : program_path numbered path ≡ at
    same_path = ap reverse (sym (mapped_twice numbered text_of path) ∙ ap (map numbered) says)

    found : ExistTogether (place_of e.context e.root path) (program (program_path numbered path))
    found = meets e.context e.root tree numbered program program_in path

    there : (place : context.Place) → place_of e.context e.root path ≡ Some place → is_there (program at) ≡ true
    there place is =
        subst (λ l. is_there (program l) ≡ true) same_path (there_is (program (program_path numbered path))
        (subst (λ (o : Option context.Place). ExistTogether o (program (program_path numbered path))) is found))

    not_there : place_of e.context e.root path ≡ None → is_there (program at) ≡ false
    not_there is =
        subst (λ l. is_there (program l) ≡ false) same_path (none_there (program (program_path numbered path))
        (subst (λ (o : Option context.Place). ExistTogether o (program (program_path numbered path))) is found))

    widths_same : widths_at (program_path numbered path) ≡ widths_at at
    widths_same = ap widths_at same_path

  says_answer : (a : Result Outcome ExecFault) → IsAnswerOfRun e.context e.root word xs n a → Says a
  says_answer (Ok o) (path, says, (place, is, takes, shown)) = (
    ((path, says), there path says place is),
    subst (λ ws. FitWidths ws xs) (widths_same path says)
        (taken_fit e.context e.root tree numbered program program_in path place is xs takes),
    subst (λ l. Tells {V = Place} (run same_place program n (start same_place program l xs)) o) (same_path path says)
        (tells (machine.run same_value (module_code e.context place.within) n
        (machine.start same_value (module_code e.context place.within) place.function xs))
        (run same_place program n (start same_place program (program_path numbered path) xs)) o
        (runs e.context e.root tree numbered program program_in path place is xs n) shown),
  )
  says_answer (Err Memory) h = tt
  says_answer (Err WrongPath) h = λ path says. not_there path says (h path says)
  says_answer (Err WrongArguments) (path, says, (place, is, refuses)) = (
    ((path, says), there path says place is),
    λ fit. refuses (fitting_taken e.context e.root tree numbered program program_in path place is xs
        (subst (λ ws. FitWidths ws xs) (sym (widths_same path says)) fit)),
  )

  placed : (x : Option context.Place) (o : Option (Fun Place)) → ExistTogether x o → is_there o ≡ true
      → (place : context.Place) × (x ≡ Some place)
  placed None o both h = absurd (true≢false (sym h ∙ ap is_there both))
  placed (Some place) o both h = (place, refl)

  -- what the program says after so many steps the run answers
  comes : (m : ℕ) (o : Outcome) → SaysIn m (Ok o) → IsAnswerOfRun e.context e.root word xs m (Ok o)
  comes m o (((path, says), there), fit, tells) =
      let place = placed (place_of e.context e.root path) (program (program_path numbered path)) (found path says)
      (subst (λ l. is_there (program l) ≡ true) (sym (same_path path says)) there) in (
        path,
        says,
        (
          place.0,
          place.1,
          fitting_taken e.context e.root tree numbered program program_in path place.0 place.1 xs
              (subst (λ ws. FitWidths ws xs) (sym (widths_same path says)) fit),
          told (machine.run same_value (module_code e.context place.0.within) m
              (machine.start same_value (module_code e.context place.0.within) place.0.function xs))
              (run same_place program m (start same_place program (program_path numbered path) xs)) o
              (runs e.context e.root tree numbered program program_in path place.0 place.1 xs m)
              (subst (λ l. Tells {V = Place} (run same_place program m (start same_place program l xs)) o)
              (sym (same_path path says)) tells),
        ),
      )

  -- what an execution answers, by the program that the bytes say
  answer_says : Says answer
  answer_says = says_answer answer e.answers

-- ---- two executions

module _ (law : TextsHaveOneProgram) (meets : PathsMeet) (runs : RunsAsProgram) (numbered : List ℕ → ℕ)
    (apart : NumbersTextsApart numbered) where
  module _ {bytes other word xs : List ℕ} {n m : ℕ} {a b : Result Outcome ExecFault} (e : ExecutionGives bytes word xs n a)
      (f : ExecutionGives other word xs m b) where
    abbrev first : FunctionsByPath Place
    first = program meets runs numbered apart e

    abbrev second : FunctionsByPath Place
    second = program meets runs numbered apart f

    abbrev first_widths : List (Option ℕ)
    first_widths = widths_at meets runs numbered apart e (word_path numbered word)

    abbrev second_widths : List (Option ℕ)
    second_widths = widths_at meets runs numbered apart f (word_path numbered word)

    -- where both have a function there or neither has, and it takes the same, they are refused alike
    same_refusal : is_there (second (word_path numbered word)) ≡ is_there (first (word_path numbered word))
        → second_widths ≡ first_widths → AreRefusedAlike a b
    same_refusal there widths =
        refused_alike word xs (is_there (first (word_path numbered word))) first_widths
        (λ o. Tells {V = Place} (run same_place first n (start same_place first (word_path numbered word) xs)) o)
        (λ o. Tells {V = Place} (run same_place second m (start same_place second (word_path numbered word) xs)) o) a b
        (answer_says meets runs numbered apart e)
        (subst (λ t. SaysAnswer word xs t first_widths
        (λ o. Tells {V = Place} (run same_place second m (start same_place second (word_path numbered word) xs)) o) b) there
        (subst (λ ws. SaysAnswer word xs (is_there (second (word_path numbered word))) ws
        (λ o. Tells {V = Place} (run same_place second m (start same_place second (word_path numbered word) xs)) o) b) widths
        (answer_says meets runs numbered apart f)))

  -- ---- of one input

  module _ {bytes word xs : List ℕ} {n m : ℕ} {a b : Result Outcome ExecFault} (e : ExecutionGives bytes word xs n a)
      (f : ExecutionGives bytes word xs m b) where
    one : program meets runs numbered apart f ≡ program meets runs numbered apart e
    one = one_program law numbered bytes (program meets runs numbered apart f) (program meets runs numbered apart e)
        (says_program meets runs numbered apart f) (says_program meets runs numbered apart e)

    one_widths : widths_at meets runs numbered apart f (word_path numbered word)
        ≡ widths_at meets runs numbered apart e (word_path numbered word)
    one_widths =
        let x = f.accepted.0 in
        let y = e.accepted.0 in
        text_widths x.text y.text (ap unlabelled (one_said bytes x.text y.text x.says_it y.says_it)) f.context e.context f.root
        e.root x.holds y.holds numbered (reverse (word_path numbered word))

  pub one_refusal : OneRefusal
  one_refusal bytes word xs n m a b e f =
      same_refusal e f (ap (λ (p : FunctionsByPath Place). is_there (p (word_path numbered word))) (one e f)) (one_widths e f)

  pub longer_shows_more : LongerShowsMore
  longer_shows_more bytes word xs n m a b less e f =
      let p = program meets runs numbered apart e in
      let s = start same_place p (word_path numbered word) xs in
      shows (run same_place p n s) (run same_place p m s) a b (answer_says meets runs numbered apart e).2
      (subst (λ (q : FunctionsByPath Place). Tells {V = Place}
      (run same_place q m (start same_place q (word_path numbered word) xs)) b) (one e f)
      (answer_says meets runs numbered apart f).2)
      (shown_later same_place p s n m less)

  pub one_outcome_each : OneOutcome
  one_outcome_each bytes word xs n a b e f =
      let p = program meets runs numbered apart e in
      one_outcome (run same_place p n (start same_place p (word_path numbered word) xs)) a b
      (answer_says meets runs numbered apart e).2
      (subst (λ (q : FunctionsByPath Place). Tells {V = Place}
      (run same_place q n (start same_place q (word_path numbered word) xs)) b) (one e f)
      (answer_says meets runs numbered apart f).2)

  pub same_anywhere : SameAnywhere
  same_anywhere bytes word xs n a e s root accepted =
      let f : ExecutionGives bytes word xs n (Err Memory) =
      record { context = s; root = root; accepted = accepted; answers = tt } in
      let l = word_path numbered word in
      let says = answer_says meets runs numbered apart e in
      comes meets runs numbered apart f n a (
        (says.0.0, ap (λ (p : FunctionsByPath Place). is_there (p l)) (one e f) ∙ says.0.1),
        subst (λ ws. FitWidths ws xs) (sym (one_widths e f)) says.1,
        subst (λ (p : FunctionsByPath Place). Tells {V = Place} (run same_place p n (start same_place p l xs)) a)
            (sym (one e f)) says.2,
      )

  -- ---- of what is read and what is written

  module _ (passes : List KitPass) (bytes text : List ℕ) (h : RunGives passes bytes text) where
    abbrev made : PassedPrograms (map pass_of passes) h.before h.gives.after h.root numbered
    made = h.gives.programs numbered apart

    -- the trees that the context held
    before_same : made.before ≡ h.accepted.0.holds.tree
    before_same = one_tree h.before.program h.root made.before h.accepted.0.holds.tree made.is_first.stands
        h.accepted.0.holds.is_tree

    after_same : made.after ≡ h.gives.written.holds.tree
    after_same = one_tree h.gives.after.program h.root made.after h.gives.written.holds.tree made.is_last.stands
        h.gives.written.holds.is_tree

    module _ {word xs : List ℕ} {n m : ℕ} {a b : Result Outcome ExecFault} (e : ExecutionGives bytes word xs n a)
        (f : ExecutionGives text word xs m b) where
      are_run : AreRun passes bytes text (program meets runs numbered apart e) (program meets runs numbered apart f)
      are_run = record {
        gives = h;
        numbered = numbered;
        numbering = apart;
        first = says_program meets runs numbered apart e;
        last = says_program meets runs numbered apart f;
      }

      -- what is so of the programs before and after is so of those that are read
      carried : (P : FunctionsByPath Place → FunctionsByPath Place → Type 0) → P made.first made.last
          → P (program meets runs numbered apart e) (program meets runs numbered apart f)
      unfolding are_run
      carried P x = moved law passes bytes text (program meets runs numbered apart e) (program meets runs numbered apart f)
          are_run P x

      faces : SameFaces (program meets runs numbered apart e) (program meets runs numbered apart f)
      faces = carried SameFaces made.faces

      read_widths : (l : List ℕ) → widths_at meets runs numbered apart e l
          ≡ widths_taken (key_at h.before.types) (function_content {N = by_handle} numbered (reverse l) made.before)
      read_widths l =
          let x = e.accepted.0 in
          let y = h.accepted.0 in
          text_widths x.text y.text (ap unlabelled (one_said bytes x.text y.text x.says_it y.says_it)) e.context h.before
          e.root h.root x.holds y.holds numbered (reverse l)
          ∙ ap (λ (t : KitTree). widths_taken (key_at h.before.types) (function_content {N = by_handle} numbered (reverse l) t))
          (sym before_same)

      passed_widths : (l : List ℕ)
          → widths_taken (key_at h.gives.after.types) (function_content {N = by_handle} numbered (reverse l) made.after)
          ≡ widths_taken (key_at h.before.types) (function_content {N = by_handle} numbered (reverse l) made.before)
      passed_widths l = λ i. widths_taken (key_at (h.gives.passed.types i)) (made.content (reverse l) i)

      written_widths : (l : List ℕ) → widths_at meets runs numbered apart f l
          ≡ widths_taken (key_at h.gives.after.types) (function_content {N = by_handle} numbered (reverse l) made.after)
      written_widths l =
          let x = f.accepted.0 in
          let y = h.gives.written in
          let same : IsSameModule x.text y.tree =
          ap unlabelled (one_said text x.text y.again x.says_it y.accepted.says_it) ∙ y.same in
          text_widths x.text y.tree same f.context h.gives.after f.root h.root x.holds y.holds numbered (reverse l)
          ∙ ap (λ (t : KitTree). widths_taken (key_at h.gives.after.types)
          (function_content {N = by_handle} numbered (reverse l) t)) (sym after_same)

      widths_kept : (l : List ℕ) → widths_at meets runs numbered apart f l ≡ widths_at meets runs numbered apart e l
      widths_kept l = written_widths l ∙ passed_widths l ∙ sym (read_widths l)

    -- runs of programs that are alike are alike
    execute_alike : (c : ℕ) → AlikeWithin c made.first made.last → ExecuteAlike c bytes text
    execute_alike c alike = record {
      there = λ word xs n m a b less e f.
          let p = program meets runs numbered apart e in
          let q = program meets runs numbered apart f in
          let l = word_path numbered word in
          shows (run same_place p n (start same_place p l xs)) (run same_place q m (start same_place q l xs)) a b
          (answer_says meets runs numbered apart e).2 (answer_says meets runs numbered apart f).2
          (followed same_place c p q (carried e f (AlikeWithin c) alike).there l xs n m less);
      back = λ word xs n m a b less e f.
          let p = program meets runs numbered apart e in
          let q = program meets runs numbered apart f in
          let l = word_path numbered word in
          shows (run same_place p n (start same_place p l xs)) (run same_place q m (start same_place q l xs)) a b
          (answer_says meets runs numbered apart e).2 (answer_says meets runs numbered apart f).2
          (followed same_place c p q (carried f e (AlikeWithin c) alike).back l xs n m less);
      ends = λ word xs n a over e s root accepted.
          let f : ExecutionGives text word xs n (Err Memory) =
          record { context = s; root = root; accepted = accepted; answers = tt } in
          let p = program meets runs numbered apart e in
          let q = program meets runs numbered apart f in
          let l = word_path numbered word in
          let says = answer_says meets runs numbered apart e in
          let other = (carried e f (AlikeWithin c) alike).there l xs n in (
            other.0,
            other.1,
            comes meets runs numbered apart f other.0 a (
              (says.0.0, (faces e f).there l ∙ says.0.1),
              subst (λ ws. FitWidths ws xs) (sym (widths_kept e f l)) says.1,
              over_shown (run same_place p n (start same_place p l xs)) (run same_place q other.0 (start same_place q l xs))
                  a over says.2 other.2,
            ),
          );
      ends_back = λ word xs n a over e s root accepted.
          let f : ExecutionGives bytes word xs n (Err Memory) =
          record { context = s; root = root; accepted = accepted; answers = tt } in
          let p = program meets runs numbered apart e in
          let q = program meets runs numbered apart f in
          let l = word_path numbered word in
          let says = answer_says meets runs numbered apart e in
          let other = (carried f e (AlikeWithin c) alike).back l xs n in (
            other.0,
            other.1,
            comes meets runs numbered apart f other.0 a (
              (says.0.0, sym ((faces f e).there l) ∙ says.0.1),
              subst (λ ws. FitWidths ws xs) (widths_kept f e l) says.1,
              over_shown (run same_place p n (start same_place p l xs)) (run same_place q other.0 (start same_place q l xs))
                  a over says.2 other.2,
            ),
          );
    }

  pub written_refuse_alike : WrittenRefuseAlike
  written_refuse_alike passes bytes text h word xs n m a b e f =
      same_refusal e f ((faces passes bytes text h e f).there (word_path numbered word))
      (widths_kept passes bytes text h e f (word_path numbered word))

  pub written_execute_alike : WrittenExecuteAlike
  written_execute_alike passes bytes text h = (
    (made passes bytes text h).factor,
    execute_alike passes bytes text h (made passes bytes text h).factor
        (made passes bytes text h).alike,
  )

  pub one_pass_executes_alike : OnePassExecutesAlike
  one_pass_executes_alike pass bytes text h =
      let made : PassedPrograms (map pass_of (pass ∷ [])) h.before h.gives.after h.root numbered =
      h.gives.programs numbered apart in
      let count : operations_below made.before + operations_below made.after
      ≡ operations_below h.accepted.0.holds.tree + operations_below h.gives.written.holds.tree =
      (λ i. operations_below (before_same (pass ∷ []) bytes text h i) + operations_below (after_same (pass ∷ []) bytes text h i)) in
      execute_alike (pass ∷ []) bytes text h
      (suc (operations_below h.accepted.0.holds.tree + operations_below h.gives.written.holds.tree))
      (subst (λ k. AlikeWithin (suc k) made.first made.last) count (made.bound (pass_of pass) refl))
