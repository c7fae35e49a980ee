-- Which numbers a function takes is told by its type alone: so it is the same in each context that its text is read into, and
-- after passes.
use Rattle.std.proofs.Common.{◌≡◌, ℕ, zero, suc, Bool, true, false, List, [], ◌∷◌, Option, Some, None, option_map, option_and_then}
use Rattle.std.proofs.Common.{refl, sym, ap, ◌∙◌, subst, map, length, slice_get, unwrap_or}
use Rattle.std.specs.Prelude.{◌&&◌, if◌then◌else◌, nat_eq, nat_le, reverse}
use Rattle.std.proofs.lemmas.List.{length-map}
use Rattle.std.proofs.lemmas.Option.{same_Some}
use Rattle.ir_base.specs.declared.types.TypeHandle.{TypeHandle}
use Rattle.ir_forest.specs.Closed.{IsSameModule, unlabelled}
use Rattle.ir_names.specs.Dictionary.{attribute_at}
use Rattle.ir_names.specs.Identifier.{text_of}
use Rattle.ir_names.specs.declared.identifier.Identifier.{Identifier}
use Rattle.ir_print.specs.Pieces.{Entity}
use Rattle.ir_print.specs.Shown.{Pairs}
use Rattle.ir_program.specs.Program.{BlockView, TypedValue, arguments_at, type_at}
use Rattle.ir_program.specs.declared.handles.Operation.{Operation}
use Rattle.ir_program.specs.declared.handles.Ptr.{Ptr}
use Rattle.ir_trees.specs.Stands.{by_handle, defined_by, ProgramHead, ProgramLabel, StandsFor}
use Rattle.ir_trees.specs.Trees.{Blocks, Operations, Regions, Sort}
use Rattle.ir_types.specs.Interned.{key_at}
use Rattle.kit.specs.Context.{KitContext, KitTree}
use Rattle.kit.specs.Meaning.{is_function, is_module, KitBlock, KitOperation}
use Rattle.kit.specs.Says.{says}
use Rattle.kit_behaviour.specs.Machine.{FunctionsByPath}
use Rattle.kit_behaviour.specs.Places as flat
use Rattle.kit_checks.proofs.Down.{block_listed, both}
use Rattle.kit_checks.specs.KitWorld.{kit_world}
use Rattle.kit_checks.specs.Located.{IsBody}
use Rattle.kit_checks.specs.Rules.{HasFunctionBody}
use Rattle.kit_checks.specs.Sites.{Listed, region_list}
use Rattle.kit_checks.specs.Words.{first_body, function_of, identifier_in, integer_of, type_in, types_of}
use Rattle.kit_checks.specs.World.{world_of}
use Rattle.kit_checks.specs.declared.rule.Rule.TheVariants as rule
use Rattle.kit_execution.proofs.Bodies.{AreFirst, body_tree, KitBlocks}
use Rattle.kit_execution.proofs.Programs.{agreed}
use Rattle.kit_execution.proofs.TreePaths.{PathsAgree}
use Rattle.kit_execution.specs.Laws.{IsProgramIn, program_path}
use Rattle.kit_interpreter.specs.Running.{AreFitting, FitsWidth, TakesNumbers}
use Rattle.kit_ops.specs.Keys as keys
use Rattle.kit_ops.specs.declared.attributes.KitAttr.{KitAttr}
use Rattle.kit_ops.specs.declared.attributes.KitAttr.TheVariants as attrs
use Rattle.kit_ops.specs.declared.attributes.keys.TheConstants.{FUNCTION_TYPE}
use Rattle.kit_ops.specs.declared.kinds.KitOp.TheVariants as ops
use Rattle.kit_ops.specs.declared.types.FunctionType.{FunctionType}
use Rattle.kit_ops.specs.declared.types.IntegerType.{IntegerType}
use Rattle.kit_ops.specs.declared.types.KitType.{KitType}
use Rattle.kit_ops.specs.declared.types.KitType.TheVariants as types
use Rattle.kit_optimiser.specs.Functions.{function_content}
use Rattle.kit_places.specs.Placed.{place_of}
use Rattle.kit_places.specs.Store.{body_of, width_at, width_of}
use Rattle.kit_places.specs.declared.places.Place.{Place}
use Rattle.kit_ruled_views.proofs.programs.Located.{located}
use Rattle.kit_ruled_views.proofs.programs.RuledPaths.{ruled_at}
use Rattle.kit_ruled_views.specs.Paths.{first_with, is_function_named, is_module_named, is_name, locate, members_in, operations_first}
use Rattle.kit_ruled_views.specs.Ruled.{IsRuledFunction}
use Rattle.kit_text_programs.proofs.SaidTrees.{trees_alike}
use Rattle.kit_text_programs.proofs.SameTypes.{AreSameFunctions, same_functions, same_integers}
use Rattle.kit_text_programs.proofs.Unlabelled.{HasSomeLabel, unlabelled_tree}
use Rattle.kit_text_programs.proofs.WrittenTypes.{all_written}
use Rattle.kit_text_programs.specs.Alike.{AreAlike, AreBoth, AreHeads, AreTrees, blocks, no_blocks, no_operations, no_regions}
use Rattle.kit_text_programs.specs.Alike.{operations, regions}
use Rattle.kit_text_programs.specs.RuleLaws.{AreAlikeIn}
use Rattle.kit_text_programs.specs.Same.{IsSameBlock, IsSameType, IsSameValue}
use Rattle.opt_trees.specs.Occurrences.{at_root}
use Rattle.text_dialect.specs.Seen.{seen}
use Rattle.text_dialect.specs.Standing.{HasTree}
use Rattle.text_rereading.specs.Rereading.{Named, Numbering}
use Rattle.irkit_refusals.specs.Texts.{HoldsText}

-- ---- widths

-- as many numbers as widths, each below 2 to the power of its width, where it has one
pub record FitWidths (ws : List (Option ℕ)) (xs : List ℕ) : Type 0 where
  pub count : length xs ≡ length ws
  pub each : (i x : ℕ) (w : Option ℕ) → slice_get xs i ≡ Some x → slice_get ws i ≡ Some w → FitsWidth x w

-- the inputs of a function type
abbrev inputs_of : Option FunctionType → List TypeHandle
inputs_of None = []
inputs_of (Some f) = f.inputs.items

-- the type that a function has as an attribute
abbrev type_of : KitOperation → Option TypeHandle
type_of c = option_and_then type_in (attribute_at c.notes.attributes FUNCTION_TYPE.now)

module _ (leads : TypeHandle → Option KitType) where
  abbrev width_by : TypeHandle → Option ℕ
  width_by h = width_of (leads h)

  -- the widths of the inputs of a type
  abbrev widths_by : Option TypeHandle → List (Option ℕ)
  widths_by o = map width_by (inputs_of (option_and_then (λ h. option_and_then function_of (leads h)) o))

  -- the widths of the numbers that a function takes, by what it carries
  abbrev pub widths_taken : Option KitOperation → List (Option ℕ)
  widths_taken o = widths_by (option_and_then type_of o)

-- ---- lists

module _ {X Y : Type 0} (f : X → Y) where
  mapped_from : (xs : List X) (i : ℕ) (y : Y) → slice_get (map f xs) i ≡ Some y → (x : X) × (slice_get xs i ≡ Some x) × (f x ≡ y)
  mapped_from [] i y e = cc
  mapped_from (x ∷ xs) zero y e =
      let same : Some (f x) ≡ Some y = e in (x, refl, same_Some (f x) y same)
  mapped_from (x ∷ xs) (suc i) y e = mapped_from xs i y e

  mapped_to : (xs : List X) (i : ℕ) (x : X) → slice_get xs i ≡ Some x → slice_get (map f xs) i ≡ Some (f x)
  mapped_to [] i x e = cc
  mapped_to (z ∷ xs) zero x e = let same : Some z ≡ Some x = e in ap (λ v. Some (f v)) (same_Some z x same)
  mapped_to (z ∷ xs) (suc i) x e = mapped_to xs i x e

-- ---- in a context

module _ (s : KitContext) where
  abbrev width_of_value : TypedValue → Option ℕ
  width_of_value t = width_at s t.ty

  to_widths : (ts : List TypedValue) (xs : List ℕ) → AreFitting s ts xs → FitWidths (map width_of_value ts) xs
  to_widths ts xs fit = record {
    count = fit.count ∙ sym (length-map ts width_of_value);
    each = λ i x w at there.
        let t = mapped_from width_of_value ts i w there in subst (FitsWidth x) t.2 (fit.each i x t.0 at t.1);
  }

  from_widths : (ts : List TypedValue) (xs : List ℕ) → FitWidths (map width_of_value ts) xs → AreFitting s ts xs
  from_widths ts xs fit = record {
    count = fit.count ∙ length-map ts width_of_value;
    each = λ i x t at there. fit.each i x (width_of_value t) at (mapped_to width_of_value ts i t there);
  }

  defined_widths : (ts : List TypedValue)
      → map width_of_value ts ≡ map (width_by (key_at s.types)) (types_of (map defined_by ts))
  defined_widths [] = refl
  defined_widths (t ∷ ts) = ap (λ ws. width_of_value t ∷ ws) (defined_widths ts)

  -- a function whose type the rules ask for
  module _ (f : Ptr Operation) (u : KitTree) (stands : StandsFor s.program f u)
      (has : HasFunctionBody (kit_world (key_at s.types) (type_at s.program)) u) where
    first : (bs : KitBlocks) × AreFirst u bs × (first_body bs ≡ Some has.entry)
    first = both first_body (slice_get (region_list u.regions) 0) has.entry has.has_entry

    entry_there : (slice_get (body_of s.program f) 0 ≡ Some has.entry.label.name)
        × IsBody s.program has.entry.label.name has.entry
    entry_there = block_listed s.program (body_of s.program f) first.0 (body_tree s.program f u first.0 stands first.1) 0
        has.entry first.2

    entry_widths : map width_of_value (arguments_at s.program has.entry.label.name)
        ≡ widths_taken (key_at s.types) (Some u.head.content)
    entry_widths =
        let view = entry_there.1.view in
        ap (λ (o : Option (BlockView KitBlock)). map width_of_value
        (unwrap_or (option_map (λ (b : BlockView KitBlock). b.arguments) o) []))
        entry_there.1.there
        ∙ defined_widths view.arguments
        ∙ ap (λ (l : ProgramLabel KitOperation KitBlock). map (width_by (key_at s.types)) (types_of l.arguments))
        (sym entry_there.1.label)
        ∙ ap (λ hs. map (width_by (key_at s.types)) hs) has.arguments
        ∙ ap (λ o. map (width_by (key_at s.types)) (inputs_of o)) (sym has.has_type)

    takes : (xs : List ℕ) → TakesNumbers s f xs → FitWidths (widths_taken (key_at s.types) (Some u.head.content)) xs
    takes xs (b, at, fit) =
        let same : b ≡ has.entry.label.name = same_Some b has.entry.label.name (sym at ∙ entry_there.0) in
        subst (λ ws. FitWidths ws xs)
        (ap (λ c. map width_of_value (arguments_at s.program c)) same ∙ entry_widths)
        (to_widths (arguments_at s.program b) xs fit)

    takes_back : (xs : List ℕ) → FitWidths (widths_taken (key_at s.types) (Some u.head.content)) xs → TakesNumbers s f xs
    takes_back xs fit = (
      has.entry.label.name,
      entry_there.0,
      from_widths (arguments_at s.program has.entry.label.name) xs (subst (λ ws. FitWidths ws xs) (sym entry_widths) fit),
    )

module _ (s : KitContext) (root : Ptr Operation) (t : KitTree) (numbered : List ℕ → ℕ) (p : FunctionsByPath flat.Place)
    (given : IsProgramIn s root t numbered p) (path : List Identifier) (place : Place)
    (is : place_of s root path ≡ Some place) where
  led_to : (x : Option Place) (o : Option KitTree)
      → PathsAgree s.program numbered given.numbering t (map text_of path) x o → x ≡ Some place
      → (u : KitTree) × (o ≡ Some u) × StandsFor s.program place.function u
  led_to None o agree e = cc
  led_to (Some y) None agree e = absurd agree
  led_to (Some y) (Some u) agree e =
      let same : y ≡ place = same_Some y place e in
      (u, refl, subst (λ (z : Place). StandsFor s.program z.function u) same agree.stands)

  -- the function's tree
  leading : (u : KitTree) × (locate {N = by_handle} numbered (reverse (program_path numbered path)) t ≡ Some u)
      × StandsFor s.program place.function u
  leading = led_to (place_of s root path) (locate {N = by_handle} numbered (reverse (program_path numbered path)) t)
      (agreed s root t numbered p given path) is

  ruled : IsRuledFunction (key_at s.types) (type_at s.program) leading.0
  ruled = ruled_at (key_at s.types) (type_at s.program) numbered t (given.obeys t given.stands)
      (reverse (program_path numbered path)) leading.0 leading.1

  body : HasFunctionBody (kit_world (key_at s.types) (type_at s.program)) leading.0
  body = ruled.keeps rule.FunctionHasType ruled.place (record { op = leading.0; around = ruled.around }) ruled.there
      ruled.function

  -- the widths of what the function takes that the path leads to
  abbrev pub path_widths : List (Option ℕ)
  path_widths =
      widths_taken (key_at s.types) (function_content {N = by_handle} numbered (reverse (program_path numbered path)) t)

  widths_are : path_widths ≡ widths_taken (key_at s.types) (Some leading.0.head.content)
  widths_are = ap (λ (o : Option KitTree). widths_taken (key_at s.types) (option_map (λ (u : KitTree). u.head.content) o))
      leading.1

  -- the numbers that it takes are those that fit
  pub taken_fit : (xs : List ℕ) → TakesNumbers s place.function xs → FitWidths path_widths xs
  taken_fit xs h = subst (λ ws. FitWidths ws xs) (sym widths_are) (takes s place.function leading.0 leading.2 body xs h)

  pub fitting_taken : (xs : List ℕ) → FitWidths path_widths xs → TakesNumbers s place.function xs
  fitting_taken xs h = takes_back s place.function leading.0 leading.2 body xs (subst (λ ws. FitWidths ws xs) widths_are h)

-- ---- two contexts

abbrev KitHead : Type 0
KitHead = ProgramHead KitOperation KitBlock

module _ (s z : KitContext) (numbering others : Numbering) (numbered : List ℕ → ℕ) where
  abbrev Types : TypeHandle → TypeHandle → Type 0
  Types = IsSameType (key_at s.types) (key_at z.types)

  abbrev Heads : KitHead → KitHead → Type 0
  Heads = AreHeads (world_of s) (world_of z) Types (IsSameValue numbering others) (IsSameBlock numbering others)

  abbrev Trees : KitTree → KitTree → Type 0
  Trees = AreTrees (world_of s) (world_of z) Types (IsSameValue numbering others) (IsSameBlock numbering others)

  abbrev Alike : (k : Sort) → Listed KitOperation KitBlock k → Listed KitOperation KitBlock k → Type 0
  Alike k = AreAlike (world_of s) (world_of z) Types (IsSameValue numbering others) (IsSameBlock numbering others) k

  -- names are the same, so the same operations are found by them

  is_number : ℕ → Option (List ℕ) → Bool
  is_number n None = false
  is_number n (Some text) = nat_eq n (numbered text)

  by_text : (n : ℕ) (o : Option KitAttr) → is_name numbered n o ≡ is_number n (option_and_then identifier_in o)
  unfolding is_number
  by_text n None = refl
  by_text n (Some (attrs.Identifier name)) = refl
  by_text n (Some _) = refl

  same_name : (n : ℕ) (h k : KitHead) → Heads h k
      → is_name numbered n (attribute_at h.content.notes.attributes keys.symbol_name)
      ≡ is_name numbered n (attribute_at k.content.notes.attributes keys.symbol_name)
  same_name n h k heads =
      by_text n (attribute_at h.content.notes.attributes keys.symbol_name) ∙ ap (is_number n) heads.names
      ∙ sym (by_text n (attribute_at k.content.notes.attributes keys.symbol_name))

  abbrev IsSameTest : (KitOperation → Bool) → Type 0
  IsSameTest test = (h k : KitHead) → Heads h k → test h.content ≡ test k.content

  function_test : (n : ℕ) → IsSameTest (is_function_named numbered n)
  function_test n h k heads = λ i. is_function (heads.kinds i) && same_name n h k heads i

  module_test : (n : ℕ) → IsSameTest (is_module_named numbered n)
  module_test n h k heads = λ i. is_module (heads.kinds i) && same_name n h k heads i

  module _ (test : KitOperation → Bool) (same : IsSameTest test) where
    first_both : (os ps : Listed KitOperation KitBlock Operations)
        → Alike Operations os ps
        → AreBoth Trees (first_with test os) (first_with test ps)
    first_both os ps no_operations = tt
    first_both os ps (operations h k rs qs rest more heads inside after) =
        either (test h.content) (test k.content) (same h k heads) (first_both rest more after)
      where
        either : (b c : Bool) → b ≡ c → AreBoth Trees (first_with test rest) (first_with test more)
            → AreBoth Trees (if b then Some (record { head = h; regions = rs }) else first_with test rest)
            (if c then Some (record { head = k; regions = qs }) else first_with test more)
        either true true e ih = record { heads = heads; inside = inside }
        either false false e ih = ih
        either true false e ih = absurd (cc e)
        either false true e ih = absurd (cc e)

  firsts_alike : (bs cs : Listed KitOperation KitBlock Blocks) → Alike Blocks bs cs
      → Alike Operations (operations_first bs) (operations_first cs)
  firsts_alike bs cs no_blocks = no_operations
  firsts_alike bs cs (blocks l m os ps rest more names arguments known inside after) = inside

  members_alike : (rs qs : Listed KitOperation KitBlock Regions) → Alike Regions rs qs
      → Alike Operations (members_in rs) (members_in qs)
  members_alike rs qs no_regions = no_operations
  members_alike rs qs (regions bs cs rest more inside after) = firsts_alike bs cs inside

  then_both : (f : KitTree → Option KitTree) (o p : Option KitTree) → ((t u : KitTree) → Trees t u → AreBoth Trees (f t) (f u))
      → AreBoth Trees o p → AreBoth Trees (option_and_then f o) (option_and_then f p)
  then_both f None None each h = tt
  then_both f (Some t) (Some u) each h = each t u h
  then_both f None (Some u) each h = absurd h
  then_both f (Some t) None each h = absurd h

  -- a path leads to alike functions in both trees, or to none in both
  located_both : (path : List ℕ) (t u : KitTree) → Alike Regions t.regions u.regions
      → AreBoth Trees (locate {N = by_handle} numbered path t) (locate {N = by_handle} numbered path u)
  located_both [] t u h = tt
  located_both (n ∷ []) t u h =
      first_both (is_function_named numbered n) (function_test n) (members_in t.regions) (members_in u.regions)
      (members_alike t.regions u.regions h)
  located_both (n ∷ m ∷ path) t u h =
      then_both (locate {N = by_handle} numbered (m ∷ path))
      (first_with (is_module_named numbered n) (members_in t.regions))
      (first_with (is_module_named numbered n) (members_in u.regions))
      (λ v w k. located_both (m ∷ path) v w k.inside)
      (first_both (is_module_named numbered n) (module_test n) (members_in t.regions) (members_in u.regions)
      (members_alike t.regions u.regions h))

  -- types that are the same have the same widths

  width_in : Option IntegerType → Option ℕ
  width_in None = None
  width_in (Some i) = if nat_le i.width 64 then Some i.width else None

  by_integer : (k : Option KitType) → width_of k ≡ width_in (option_and_then integer_of k)
  unfolding width_in
  by_integer None = refl
  by_integer (Some (types.Integer i)) = refl
  by_integer (Some (types.Function f)) = refl
  by_integer (Some types.Unit) = refl

  same_width : (a c : TypeHandle) → Types a c → width_by (key_at s.types) a ≡ width_by (key_at z.types) c
  same_width a c h =
      by_integer (key_at s.types a) ∙ ap width_in (same_integers (key_at s.types) (key_at z.types) a c h)
      ∙ sym (by_integer (key_at z.types c))

  listed_widths : (hs ks : List TypeHandle) → Pairs Types hs ks
      → map (width_by (key_at s.types)) hs ≡ map (width_by (key_at z.types)) ks
  listed_widths [] [] h = refl
  listed_widths [] (k ∷ ks) h = absurd h
  listed_widths (a ∷ hs) [] h = absurd h
  listed_widths (a ∷ hs) (c ∷ ks) h =
      ap (λ w. w ∷ map (width_by (key_at s.types)) hs) (same_width a c h.0)
      ∙ ap (λ ws. width_by (key_at z.types) c ∷ ws) (listed_widths hs ks h.1)

  input_widths : (f g : Option FunctionType) → AreBoth (AreSameFunctions (key_at s.types) (key_at z.types)) f g
      → map (width_by (key_at s.types)) (inputs_of f) ≡ map (width_by (key_at z.types)) (inputs_of g)
  input_widths None None h = refl
  input_widths None (Some g) h = absurd h
  input_widths (Some f) None h = absurd h
  input_widths (Some f) (Some g) h = listed_widths f.inputs.items g.inputs.items h.0

  type_widths : (a c : Option TypeHandle) → AreBoth Types a c → widths_by (key_at s.types) a ≡ widths_by (key_at z.types) c
  type_widths None None h = refl
  type_widths None (Some c) h = absurd h
  type_widths (Some a) None h = absurd h
  type_widths (Some a) (Some c) h =
      input_widths (option_and_then function_of (key_at s.types a)) (option_and_then function_of (key_at z.types c))
      (same_functions (key_at s.types) (key_at z.types) a c h)

  abbrev content : Option KitTree → Option KitOperation
  content o = option_map (λ (u : KitTree). u.head.content) o

  located_widths : (o p : Option KitTree) → ((u : KitTree) → o ≡ Some u → u.head.content.kind ≡ ops.Func) → AreBoth Trees o p
      → widths_taken (key_at s.types) (content o) ≡ widths_taken (key_at z.types) (content p)
  located_widths None None kind h = refl
  located_widths None (Some w) kind h = absurd h
  located_widths (Some v) None kind h = absurd h
  located_widths (Some v) (Some w) kind h =
      type_widths (type_of v.head.content) (type_of w.head.content) (h.heads.types (kind v refl))

  -- functions of alike trees take the same widths
  pub widths_alike : (path : List ℕ) (t u : KitTree) → Trees t u
      → widths_taken (key_at s.types) (function_content {N = by_handle} numbered path t)
      ≡ widths_taken (key_at z.types) (function_content {N = by_handle} numbered path u)
  widths_alike path t u h =
      located_widths (locate {N = by_handle} numbered path t) (locate {N = by_handle} numbered path u)
      (λ v e.
      let l = located {N = by_handle} numbered path t (at_root t) v e in
      subst (λ (w : KitTree). w.head.content.kind ≡ ops.Func) l.is l.kind)
      (located_both path t u h.inside)

-- ---- texts

module _ (text other : Entity ℕ) (same : IsSameModule text other) (s z : KitContext) (root there : Ptr Operation)
    (h : HoldsText text s root) (k : HoldsText other z there) where
  alike_trees : AreAlikeIn s z h.numbering k.numbering h.tree k.tree
  alike_trees =
      trees_alike s z h.numbering k.numbering h.distinct k.distinct (unlabelled text) root there h.tree k.tree
      (unlabelled_tree says (Named h.numbering) (seen s) text root h.stands)
      (subst (λ (plain : Entity ℕ). HasTree says (Named k.numbering) HasSomeLabel (seen z) there plain) (sym same)
      (unlabelled_tree says (Named k.numbering) (seen z) other there k.stands)) h.is_tree k.is_tree
      (all_written s h.tree h.types) (all_written z k.tree k.types)

  -- functions of what stands for one text take the same widths
  pub text_widths : (numbered : List ℕ → ℕ) (path : List ℕ)
      → widths_taken (key_at s.types) (function_content {N = by_handle} numbered path h.tree)
      ≡ widths_taken (key_at z.types) (function_content {N = by_handle} numbered path k.tree)
  text_widths numbered path =
      widths_alike s z h.numbering k.numbering numbered path h.tree k.tree alike_trees
