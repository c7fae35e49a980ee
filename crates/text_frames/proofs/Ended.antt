-- What ends is one more tree in what is around it.
use Rattle.std.proofs.Common.{◌≡◌, ℕ, List, [], ◌∷◌, ◌++◌, length, Option, Some, None, refl, sym, ap, subst, ◌∙◌, ◌⊎◌, inl, inr}
use Rattle.std.specs.Option.{option_map}
use Rattle.std.specs.Prelude.{Vec}
use Rattle.std.specs.Global.{Global}
use Rattle.ir_names.specs.Tree.{Trees, node, no_tree, a_tree, join, count}
use Rattle.ir_base.specs.declared.types.TypeHandle.{TypeHandle}
use Rattle.ir_print.specs.declared.format.Part.{Part}
use Rattle.ir_print.specs.declared.format.Part.TheVariants as part
use Rattle.ir_print.specs.Pieces.{Pieces, Values, ValueTree, value_of_kind, list, item, chosen, operands, successor, region}
use Rattle.ir_print.specs.Shown.{Saying, ShowsPart, ShowsParts, ShowsMembers, ShowsType, ShowsAttribute}
use Rattle.ir_program.specs.declared.handles.Ptr.{Ptr}
use Rattle.ir_program.specs.declared.handles.BasicBlock.{BasicBlock}
use Rattle.ir_tokens.specs.declared.faults.Fault.{Fault}
use Rattle.ir_grammar.specs.declared.grammar.Action.{Action}
use Rattle.ir_grammar.specs.declared.grammar.Action.TheVariants as act
use Rattle.text_frames.specs.declared.opened.Body.{Body}
use Rattle.text_frames.specs.declared.opened.Body.TheVariants as body
use Rattle.text_frames.specs.declared.opened.Content.{Content}
use Rattle.text_frames.specs.declared.opened.Open as opened
use Rattle.text_frames.specs.declared.opened.OpenBlock.{OpenBlock}
use Rattle.text_frames.specs.declared.opened.OpenOperation.{OpenOperation}
use Rattle.ir_forest.specs.Forest.{ActionSpan}
use Rattle.ir_forest.specs.Meaning.{pieces_in, with_piece, tokens_in}
use Rattle.ir_forest.specs.ValueFaults.{refused, tokens_at, part_tokens}
use Rattle.ir_forest.specs.Building as building
use Rattle.ir_forest.specs.Building.{behind, ended_tree, names_behind, with_name, refused_fault, names_fault, names_fault_of, or_else, fault_at_end}
use Rattle.ir_grammar.specs.Nesting.{Position, at_end, in_operation, in_header, in_block, in_value, in_list, in_item, in_choice}
use Rattle.text_frames.specs.Opened.{HasPut, HasMember, HasBody}
use Rattle.text_frames.specs.building.Kept.{KeepsKeys}
use Rattle.text_frames.specs.Frames.{FrameSort, a_text, an_operation, some_operands, an_edge, a_region, a_block, a_type, an_attribute, a_list, an_item, a_choice, sort_at, sort_of, TakesParts, TakesTypes, StandsAlone, EndsAt, Begins, NamesResults, SaysParts, SaysMembers, Contains, IsFrame, BeganSo, Ending, Ended}
use Rattle.text_frames.proofs.BuildingLemmas.ShownLater.{members_put}
use Rattle.ir_forest.proofs.PiecesBehind.{pieces_behind, parts_behind, name_behind}
use Rattle.ir_print.specs.declared.format.ValueSort.TheVariants as sorts
use Rattle.text_frames.proofs.Framing.{frame_later, frame_put, count_tokens}

-- ---- what has a sort

module _ {D K A T : Type 0} where
  pub is_list : (b : Body D K A T) → sort_of b ≡ a_list → (ms : Vec (Vec (Part D K A T) Global) Global) × (b ≡ body.List ms)
  is_list (body.List ms) e = (ms, refl)
  is_list _ e = cc

  pub is_operation : (b : Body D K A T) → sort_of b ≡ an_operation → (o : OpenOperation) × (b ≡ body.Operation o)
  is_operation (body.Operation o) e = (o, refl)
  is_operation _ e = cc

  pub is_operands : (b : Body D K A T) → sort_of b ≡ some_operands → (ks : Vec ℕ Global) × (b ≡ body.Operands ks)
  is_operands (body.Operands ks) e = (ks, refl)
  is_operands _ e = cc

  pub is_edge : (b : Body D K A T) → sort_of b ≡ an_edge → (ks : Vec ℕ Global) × (b ≡ body.Successor ks)
  is_edge (body.Successor ks) e = (ks, refl)
  is_edge _ e = cc

  pub is_region : (b : Body D K A T) → sort_of b ≡ a_region → (bs : Vec (Ptr BasicBlock) Global) × (b ≡ body.Region bs)
  is_region (body.Region bs) e = (bs, refl)
  is_region _ e = cc

  pub is_block : (b : Body D K A T) → sort_of b ≡ a_block → (o : OpenBlock) × (b ≡ body.Block o)
  is_block (body.Block o) e = (o, refl)
  is_block _ e = cc

  pub is_text : (b : Body D K A T) → sort_of b ≡ a_text → b ≡ body.Text
  is_text body.Text e = refl
  is_text _ e = cc

  pub began_other : (f g : opened.Open D K A T) (b c : Body D K A T) → f.body ≡ b → g.body ≡ c → ((a : Action) → Begins b a → Begins c a) → sort_of c ≡ sort_of b → g.first ≡ f.first → BeganSo f g
  began_other f g b c eb ec begins sorts first = record {
    first = first;
    begins = λ a h. subst (λ (x : Body D K A T). Begins x a) (sym ec) (begins a (subst (λ (x : Body D K A T). Begins x a) eb h));
    sort = ap sort_of ec ∙ (sorts ∙ sym (ap sort_of eb));
  }

  pub began_same : (f g : opened.Open D K A T) → g.body ≡ f.body → g.first ≡ f.first → BeganSo f g
  began_same f g e first = began_other f g f.body f.body refl e (λ a h. h) refl first

-- ---- what holds no pieces

-- neither parts, members nor operands are said in it
abbrev pub Hollow : FrameSort → Type 0
Hollow a_text = Unit {0}
Hollow a_block = Unit {0}
Hollow _ = ⊥

pub named_by : (s : FrameSort) (names : List ℕ) (ts : Trees ActionSpan) → names ≡ names_behind [] ts → NamesResults s names ts
named_by an_operation names ts e = tt
named_by a_type names ts e = tt
named_by an_attribute names ts e = tt
named_by an_item names ts e = tt
named_by a_choice names ts e = tt
named_by a_text names ts e = e
named_by some_operands names ts e = tt
named_by an_edge names ts e = tt
named_by a_region names ts e = tt
named_by a_block names ts e = e
named_by a_list names ts e = tt

pub alone_is_hollow : (p : Position) → StandsAlone p → Hollow (sort_at p)
alone_is_hollow at_end h = tt
alone_is_hollow in_block h = tt
alone_is_hollow _ h = absurd h

pub hollow_names : (s : FrameSort) (names : List ℕ) (ts : Trees ActionSpan) → Hollow s → NamesResults s names ts → names ≡ names_behind [] ts
hollow_names a_text names ts h e = e
hollow_names a_block names ts h e = e
hollow_names an_operation names ts h e = absurd h
hollow_names some_operands names ts h e = absurd h
hollow_names an_edge names ts h e = absurd h
hollow_names a_region names ts h e = absurd h
hollow_names a_type names ts h e = absurd h
hollow_names an_attribute names ts h e = absurd h
hollow_names a_list names ts h e = absurd h
hollow_names an_item names ts h e = absurd h
hollow_names a_choice names ts h e = absurd h

pub alone_names : (p : Position) (names : List ℕ) (ts : Trees ActionSpan) → StandsAlone p → NamesResults (sort_at p) names ts → names ≡ names_behind [] ts
alone_names p names ts h e = hollow_names (sort_at p) names ts (alone_is_hollow p h) e

pub type_place : (p : Position) → TakesTypes p → (p ≡ in_header) ⊎ TakesParts (sort_at p)
type_place in_header h = inl refl
type_place in_operation h = inr tt
type_place (in_value sorts.«Type») h = inr tt
type_place (in_value sorts.Attribute) h = inr tt
type_place in_item h = inr tt
type_place in_choice h = inr tt
type_place _ h = absurd h

module _ {D K A T : Type 0} (says : Saying K A T) (values : Values) (text : ℕ → List ℕ) (types : List T) where
  hollow_contains : (b : Body D K A T) (c : Content D K A T) (ts : Trees ActionSpan) → Hollow (sort_of b) → Contains says values text types b c ts
  hollow_contains body.Text c ts h = tt
  hollow_contains (body.«Type» n) c ts h = absurd h
  hollow_contains (body.Attribute n) c ts h = absurd h
  hollow_contains (body.List ms) c ts h = absurd h
  hollow_contains body.Item c ts h = absurd h
  hollow_contains (body.Choice n) c ts h = absurd h
  hollow_contains (body.Operation o) c ts h = absurd h
  hollow_contains (body.Operands ks) c ts h = absurd h
  hollow_contains (body.Successor ks) c ts h = absurd h
  hollow_contains (body.Region bs) c ts h = absurd h
  hollow_contains (body.Block b) c ts h = tt

  -- where no pieces are said, one more tree changes the names alone
  pub frame_hollow : (g : opened.Open D K A T) (at : Position) (ts : Trees ActionSpan) (s : ActionSpan) (us : Trees ActionSpan)
      → sort_of g.body ≡ sort_at at → Hollow (sort_at at) → g.names.items ≡ with_name (names_behind [] ts) s.action s.first → IsFrame says values text types g at (behind ts (node s us))
  frame_hollow g at ts s us sorts hollow names = record {
    sort = sorts;
    contains = hollow_contains g.body g.content.value (behind ts (node s us)) (subst Hollow (sym sorts) hollow);
    named = named_by (sort_at at) g.names.items (behind ts (node s us)) (names ∙ sym (name_behind [] ts s us));
  }

-- ---- faults

module _ (values : Values) (text : ℕ → List ℕ) (o : building.Open) (ts : Trees ActionSpan) (last : ℕ) (a : Action) (e : o.action ≡ a) where
  pub fault_of : (r : Option Fault) → or_else (names_fault_of values text a o.first o.before ts last) (option_map (refused_fault a ts last) (refused values a (pieces_in values text ts))) ≡ r
      → fault_at_end values text ts (o ∷ []) last ≡ r
  fault_of r h = subst (λ (x : Action). or_else (names_fault_of values text x o.first o.before ts last) (option_map (refused_fault x ts last) (refused values x (pieces_in values text ts))) ≡ r) (sym e) h

  pub no_fault : refused values a (pieces_in values text ts) ≡ None → names_fault_of values text a o.first o.before ts last ≡ None → fault_at_end values text ts (o ∷ []) last ≡ None
  no_fault r n = fault_of None (rw (r, n))

  pub value_refused : (f : Fault) (i : ℕ) → names_fault_of values text a o.first o.before ts last ≡ None → refused values a (pieces_in values text ts) ≡ Some i → f ≡ refused_fault a ts last i
      → fault_at_end values text ts (o ∷ []) last ≡ Some f
  value_refused f i n r h = fault_of (Some f) (rw (n, r) (ap (λ (x : Fault). Some x) (sym h)))

-- ---- what ends

-- what that stands in, and what is in it
module _ {D K A T : Type 0} (says : Saying K A T) (values : Values) (text : ℕ → List ℕ) (s : List T) (f g : opened.Open D K A T) (o : building.Open) (at next : Position) (ts : Trees ActionSpan) (e : Ending says values text s f g o at next ts) where
  pub in_it : (b : Body D K A T) → f.body ≡ b → Contains says values text s b f.content.value ts
  in_it b eb = subst (λ (x : Body D K A T). Contains says values text s x f.content.value ts) eb e.frame.contains

  ends_as : (b : Body D K A T) → f.body ≡ b → EndsAt (sort_of b) next
  ends_as b eb = subst (λ (x : Body D K A T). EndsAt (sort_of x) next) eb e.begun.ends

  pub outer_list : f.body ≡ body.Item → (ms : Vec (Vec (Part D K A T) Global) Global) × (g.body ≡ body.List ms)
  outer_list eb = is_list g.body (e.outer.sort ∙ ap sort_at (ends_as body.Item eb))

  pub outer_of_region : (bs : Vec (Ptr BasicBlock) Global) → f.body ≡ body.Region bs → (p : OpenOperation) × (g.body ≡ body.Operation p)
  outer_of_region bs eb = is_operation g.body (e.outer.sort ∙ ap sort_at (ends_as (body.Region bs) eb))

  pub outer_of_operands : (ks : Vec ℕ Global) → f.body ≡ body.Operands ks → (p : OpenOperation) × (g.body ≡ body.Operation p)
  outer_of_operands ks eb = is_operation g.body (e.outer.sort ∙ ap sort_at (ends_as (body.Operands ks) eb))

  pub outer_of_edge : (ks : Vec ℕ Global) → f.body ≡ body.Successor ks → (p : OpenOperation) × (g.body ≡ body.Operation p)
  outer_of_edge ks eb = is_operation g.body (e.outer.sort ∙ ap sort_at (ends_as (body.Successor ks) eb))

  pub outer_region : (b : OpenBlock) → f.body ≡ body.Block b → (bs : Vec (Ptr BasicBlock) Global) × (g.body ≡ body.Region bs)
  outer_region b eb = is_region g.body (e.outer.sort ∙ ap sort_at (ends_as (body.Block b) eb))

module _ {D K A T : Type 0} (says : Saying K A T) (values : Values) (text : ℕ → List ℕ) (s t : List T) (keeps : KeepsKeys s t)
    (f g h : opened.Open D K A T) (o : building.Open) (at next : Position) (ts : Trees ActionSpan) (last : ℕ) (e : Ending says values text s f g o at next ts) where
  begins_as : (b : Body D K A T) → f.body ≡ b → Begins b o.action
  begins_as b eb = subst (λ (x : Body D K A T). Begins x o.action) eb e.begun.begins

  -- a part that takes the place of what ends
  part_put : (b : Body D K A T) (x : Part D K A T) (p : ValueTree) (ks : List ℕ) → TakesParts (sort_at next) → sort_of b ≡ sort_of g.body → HasPut g h b x ks → ks ≡ tokens_at o.action o.first (part_tokens ts)
      → with_piece values o.action (text o.first) (count ts) (pieces_in values text ts) no_tree ≡ a_tree p no_tree → ShowsPart says t x p
      → IsFrame says values text t h next (behind o.before (ended_tree o ts last))
  part_put b x p ks takes sorts put tokens piece shown =
      frame_put says values text t g h b next o.before (record { action = o.action; first = o.first; last = last }) ts x p ks takes
      (frame_later says values text s t keeps g next o.before e.outer) sorts put tokens piece shown

  -- what is no list, no member and no choice has one token
  one_token : (a : Action) → o.action ≡ a → tokens_at a o.first (part_tokens ts) ≡ o.first ∷ [] → f.first ∷ [] ≡ tokens_at o.action o.first (part_tokens ts)
  one_token a is one = ap (λ (k : ℕ). k ∷ []) e.begun.first ∙ (sym one ∙ ap (λ (x : Action). tokens_at x o.first (part_tokens ts)) (sym is))

  pub ended_type : (kind : ℕ) (ty : TypeHandle) → f.body ≡ body.«Type» kind → values.refused_type kind (pieces_in values text ts) ≡ None
      → ShowsType says t ty (node (value_of_kind sorts.«Type» kind) (pieces_in values text ts)) → HasPut g h g.body (part.«Type» ty) (f.first ∷ []) → Ended says values text t g h o next ts last
  ended_type kind ty eb none shown put =
      let begins : o.action ≡ act.Begin sorts.«Type» kind = begins_as (body.«Type» kind) eb in
      (no_fault values text o ts last (act.Begin sorts.«Type» kind) begins none refl, placed (type_place next (ends_as says values text s f g o at next ts e (body.«Type» kind) eb)), began_same g h put.body put.first)
    where
      placed : (next ≡ in_header) ⊎ TakesParts (sort_at next) → IsFrame says values text t h next (behind o.before (ended_tree o ts last))
      placed (inl at_header) = frame_hollow says values text t h next o.before (record { action = o.action; first = o.first; last = last }) ts
          (ap sort_of put.body ∙ e.outer.sort) (subst (λ (p : Position). Hollow (sort_at p)) (sym at_header) tt)
          (put.names ∙ subst (λ (a : Action). [] ≡ with_name (names_behind [] o.before) a o.first) (sym (begins_as (body.«Type» kind) eb)) refl)
      placed (inr takes) = part_put g.body (part.«Type» ty) (node (value_of_kind sorts.«Type» kind) (pieces_in values text ts)) _ takes refl put
          (one_token (act.Begin sorts.«Type» kind) (begins_as (body.«Type» kind) eb) refl)
          (ap (λ (a : Action). with_piece values a (text o.first) (count ts) (pieces_in values text ts) no_tree) (begins_as (body.«Type» kind) eb))
          (ty, refl, shown)

  pub ended_attribute : (kind : ℕ) (attr : A) → f.body ≡ body.Attribute kind → values.refused_attribute kind (pieces_in values text ts) ≡ None
      → ShowsAttribute says t attr (node (value_of_kind sorts.Attribute kind) (values.canonical kind (pieces_in values text ts))) → HasPut g h g.body (part.Attribute attr) (f.first ∷ []) → Ended says values text t g h o next ts last
  ended_attribute kind attr eb none shown put =
      let begins : o.action ≡ act.Begin sorts.Attribute kind = begins_as (body.Attribute kind) eb in (
        no_fault values text o ts last (act.Begin sorts.Attribute kind) begins none refl,
        part_put g.body (part.Attribute attr) (node (value_of_kind sorts.Attribute kind) (values.canonical kind (pieces_in values text ts))) _ (ends_as says values text s f g o at next ts e (body.Attribute kind) eb) refl put
            (one_token (act.Begin sorts.Attribute kind) begins refl)
            (ap (λ (a : Action). with_piece values a (text o.first) (count ts) (pieces_in values text ts) no_tree) begins)
            (attr, refl, shown),
        began_same g h put.body put.first,
      )

  pub ended_region : (p q : OpenOperation) (bs : Vec (Ptr BasicBlock) Global) → f.body ≡ body.Region bs → g.body ≡ body.Operation p → HasPut g h (body.Operation q) part.Region (f.first ∷ []) → q.kind ≡ p.kind → Ended says values text t g h o next ts last
  ended_region p q bs eb eg put kinds =
      let begins : o.action ≡ act.BeginRegion = begins_as (body.Region bs) eb in
      let place : next ≡ in_operation = ends_as says values text s f g o at next ts e (body.Region bs) eb in (
        no_fault values text o ts last act.BeginRegion begins refl refl,
        part_put (body.Operation q) part.Region (node region no_tree) _ (subst (λ (x : Position). TakesParts (sort_at x)) (sym place) tt) (sym (ap sort_of eg)) put
            (one_token act.BeginRegion begins refl)
            (ap (λ (a : Action). with_piece values a (text o.first) (count ts) (pieces_in values text ts) no_tree) begins) refl,
        began_other g h (body.Operation p) (body.Operation q) eg put.body (λ a w. w ∙ ap act.Operation (sym kinds)) refl put.first,
      )

  pub ended_operands : (p q : OpenOperation) (ks : Vec ℕ Global) → f.body ≡ body.Operands ks → g.body ≡ body.Operation p → HasPut g h (body.Operation q) (part.Operands (length ks.items)) (f.first ∷ []) → q.kind ≡ p.kind → Ended says values text t g h o next ts last
  ended_operands p q ks eb eg put kinds =
      let begins : o.action ≡ act.BeginOperands = begins_as (body.Operands ks) eb in
      let place : next ≡ in_operation = ends_as says values text s f g o at next ts e (body.Operands ks) eb in
      let tokens : ks.items ≡ tokens_in ts = in_it says values text s f g o at next ts e (body.Operands ks) eb in (
        no_fault values text o ts last act.BeginOperands begins refl refl,
        part_put (body.Operation q) (part.Operands (length ks.items)) (node (operands (count ts)) no_tree) _ (subst (λ (x : Position). TakesParts (sort_at x)) (sym place) tt) (sym (ap sort_of eg)) put
            (one_token act.BeginOperands begins refl)
            (ap (λ (a : Action). with_piece values a (text o.first) (count ts) (pieces_in values text ts) no_tree) begins)
            (ap (λ (n : ℕ). part.Operands n) (ap length tokens ∙ count_tokens ts)),
        began_other g h (body.Operation p) (body.Operation q) eg put.body (λ a w. w ∙ ap act.Operation (sym kinds)) refl put.first,
      )

  pub ended_edge : (p q : OpenOperation) (ks : Vec ℕ Global) → f.body ≡ body.Successor ks → g.body ≡ body.Operation p → HasPut g h (body.Operation q) (part.Successor (length ks.items)) (f.first ∷ []) → q.kind ≡ p.kind → Ended says values text t g h o next ts last
  ended_edge p q ks eb eg put kinds =
      let begins : o.action ≡ act.BeginSuccessor = begins_as (body.Successor ks) eb in
      let place : next ≡ in_operation = ends_as says values text s f g o at next ts e (body.Successor ks) eb in
      let tokens : ks.items ≡ tokens_in ts = in_it says values text s f g o at next ts e (body.Successor ks) eb in (
        no_fault values text o ts last act.BeginSuccessor begins refl refl,
        part_put (body.Operation q) (part.Successor (length ks.items)) (node (successor (count ts)) no_tree) _ (subst (λ (x : Position). TakesParts (sort_at x)) (sym place) tt) (sym (ap sort_of eg)) put
            (one_token act.BeginSuccessor begins refl)
            (ap (λ (a : Action). with_piece values a (text o.first) (count ts) (pieces_in values text ts) no_tree) begins)
            (ap (λ (n : ℕ). part.Successor n) (ap length tokens ∙ count_tokens ts)),
        began_other g h (body.Operation p) (body.Operation q) eg put.body (λ a w. w ∙ ap act.Operation (sym kinds)) refl put.first,
      )

  pub ended_operation : (p : OpenOperation) → f.body ≡ body.Operation p → values.refused_operation p.kind (pieces_in values text ts) ≡ None
      → names_fault g.names.items f.first (length (values.result_types p.kind (pieces_in values text ts))) last ≡ None → HasBody g h g.body → Ended says values text t g h o next ts last
  ended_operation p eb none names put =
      let begins : o.action ≡ act.Operation p.kind = begins_as (body.Operation p) eb in
      let place : StandsAlone next = ends_as says values text s f g o at next ts e (body.Operation p) eb in
      let named : g.names.items ≡ names_behind [] o.before = alone_names next g.names.items o.before place e.outer.named in (
        no_fault values text o ts last (act.Operation p.kind) begins none
            (subst (λ (k : ℕ). names_fault (names_behind [] o.before) k (length (values.result_types p.kind (pieces_in values text ts))) last ≡ None) e.begun.first
            (subst (λ (ns : List ℕ). names_fault ns f.first (length (values.result_types p.kind (pieces_in values text ts))) last ≡ None) named names)),
        frame_hollow says values text t h next o.before (record { action = o.action; first = o.first; last = last }) ts
            (ap sort_of put.body ∙ e.outer.sort) (alone_is_hollow next place)
            (put.names ∙ subst (λ (a : Action). [] ≡ with_name (names_behind [] o.before) a o.first) (sym begins) refl),
        began_same g h put.body put.first,
      )

  -- the fault with which an operation ends
  pub operation_refused : (p : OpenOperation) (fault : Fault) → f.body ≡ body.Operation p
      → or_else (names_fault g.names.items f.first (length (values.result_types p.kind (pieces_in values text ts))) last)
      (option_map (refused_fault (act.Operation p.kind) ts last) (values.refused_operation p.kind (pieces_in values text ts))) ≡ Some fault
      → fault_at_end values text ts (o ∷ []) last ≡ Some fault
  operation_refused p fault eb w =
      let begins : o.action ≡ act.Operation p.kind = begins_as (body.Operation p) eb in
      let place : StandsAlone next = ends_as says values text s f g o at next ts e (body.Operation p) eb in
      let named : g.names.items ≡ names_behind [] o.before = alone_names next g.names.items o.before place e.outer.named in
      let many : ℕ = length (values.result_types p.kind (pieces_in values text ts)) in
      fault_of values text o ts last (act.Operation p.kind) begins (Some fault)
      (subst (λ (k : ℕ). or_else (names_fault (names_behind [] o.before) k many last) (option_map (refused_fault (act.Operation p.kind) ts last) (values.refused_operation p.kind (pieces_in values text ts))) ≡ Some fault) e.begun.first
      (subst (λ (ns : List ℕ). or_else (names_fault ns f.first many last) (option_map (refused_fault (act.Operation p.kind) ts last) (values.refused_operation p.kind (pieces_in values text ts))) ≡ Some fault) named w))

  pub type_refused : (kind i : ℕ) (fault : Fault) → f.body ≡ body.«Type» kind → values.refused_type kind (pieces_in values text ts) ≡ Some i → fault ≡ refused_fault (act.Begin sorts.«Type» kind) ts last i → fault_at_end values text ts (o ∷ []) last ≡ Some fault
  type_refused kind i fault eb r w = value_refused values text o ts last (act.Begin sorts.«Type» kind) (begins_as (body.«Type» kind) eb) fault i refl r w

  pub attribute_refused : (kind i : ℕ) (fault : Fault) → f.body ≡ body.Attribute kind → values.refused_attribute kind (pieces_in values text ts) ≡ Some i → fault ≡ refused_fault (act.Begin sorts.Attribute kind) ts last i → fault_at_end values text ts (o ∷ []) last ≡ Some fault
  attribute_refused kind i fault eb r w = value_refused values text o ts last (act.Begin sorts.Attribute kind) (begins_as (body.Attribute kind) eb) fault i refl r w

  pub ended_list : (ms : Vec (Vec (Part D K A T) Global) Global) (ks : List ℕ) → f.body ≡ body.List ms → HasPut g h g.body (part.List ms) ks → ks ≡ f.content.value.tokens.items → Ended says values text t g h o next ts last
  ended_list ms ks eb put tokens =
      let begins : o.action ≡ act.BeginList = begins_as (body.List ms) eb in
      let said : SaysMembers says values text t ms.items f.content.value ts =
      subst (λ (x : Body D K A T). Contains says values text t x f.content.value ts) eb (frame_later says values text s t keeps f at ts e.frame).contains in (
        no_fault values text o ts last act.BeginList begins refl refl,
        part_put g.body (part.List ms) (node list (pieces_in values text ts)) ks (ends_as says values text s f g o at next ts e (body.List ms) eb) refl put
            (tokens ∙ (said.tokens ∙ ap (λ (a : Action). tokens_at a o.first (part_tokens ts)) (sym begins)))
            (ap (λ (a : Action). with_piece values a (text o.first) (count ts) (pieces_in values text ts) no_tree) begins)
            (ms, refl, said.members),
        began_same g h put.body put.first,
      )

  pub ended_choice : (n : ℕ) (ps : Vec (Part D K A T) Global) (ks : List ℕ) → f.body ≡ body.Choice n → HasPut g h g.body (part.Choice n ps) ks → ks ≡ f.content.value.tokens.items → ps ≡ f.content.value.parts
      → Ended says values text t g h o next ts last
  ended_choice n ps ks eb put tokens parts =
      let begins : o.action ≡ act.BeginChoice n = begins_as (body.Choice n) eb in
      let said : SaysParts says values text t f.content.value ts =
      subst (λ (x : Body D K A T). Contains says values text t x f.content.value ts) eb (frame_later says values text s t keeps f at ts e.frame).contains in (
        no_fault values text o ts last (act.BeginChoice n) begins refl refl,
        part_put g.body (part.Choice n ps) (node (chosen n) (pieces_in values text ts)) ks (ends_as says values text s f g o at next ts e (body.Choice n) eb) refl put
            (tokens ∙ (said.tokens ∙ ap (λ (a : Action). tokens_at a o.first (part_tokens ts)) (sym begins)))
            (ap (λ (a : Action). with_piece values a (text o.first) (count ts) (pieces_in values text ts) no_tree) begins)
            (ps, refl, subst (λ (v : Vec (Part D K A T) Global). ShowsParts says t v.items (pieces_in values text ts)) (sym parts) said.parts),
        began_same g h put.body put.first,
      )

  pub ended_item : (ms ns : Vec (Vec (Part D K A T) Global) Global) (ks : List ℕ) → f.body ≡ body.Item → g.body ≡ body.List ms → HasMember g h (body.List ns) ks
      → ks ≡ f.content.value.tokens.items → ns.items ≡ ms.items ++ f.content.value.parts ∷ [] → Ended says values text t g h o next ts last
  ended_item ms ns ks eb eg member tokens items =
      let begins : o.action ≡ act.BeginItem = begins_as body.Item eb in
      let place : next ≡ in_list = ends_as says values text s f g o at next ts e body.Item eb in
      let said : SaysParts says values text t f.content.value ts =
      subst (λ (x : Body D K A T). Contains says values text t x f.content.value ts) eb (frame_later says values text s t keeps f at ts e.frame).contains in
      let before : SaysMembers says values text t ms.items g.content.value o.before =
      subst (λ (x : Body D K A T). Contains says values text t x g.content.value o.before) eg (frame_later says values text s t keeps g next o.before e.outer).contains in
      let step : ActionSpan = record { action = o.action; first = o.first; last = last } in
      let more : Trees ActionSpan = behind o.before (ended_tree o ts last) in
      let q : pieces_in values text more ≡ join (pieces_in values text o.before) (a_tree (node item (pieces_in values text ts)) no_tree) =
      pieces_behind values text o.before step ts
      ∙ ap (λ (a : Action). join (pieces_in values text o.before) (with_piece values a (text o.first) (count ts) (pieces_in values text ts) no_tree)) begins in
      let shown : ShowsMembers says t (ms.items ++ f.content.value.parts ∷ []) (join (pieces_in values text o.before) (a_tree (node item (pieces_in values text ts)) no_tree)) =
      members_put says t ms.items (pieces_in values text o.before) f.content.value.parts (node item (pieces_in values text ts)) before.members said.parts in
      let all : ShowsMembers says t ns.items (pieces_in values text more) =
      subst (λ (ps : Pieces). ShowsMembers says t ns.items ps) (sym q)
      (subst (λ (xs : List (Vec (Part D K A T) Global)). ShowsMembers says t xs (join (pieces_in values text o.before) (a_tree (node item (pieces_in values text ts)) no_tree))) (sym items) shown) in
      let there : h.content.value.tokens.items ≡ part_tokens more =
      member.tokens ∙ (ap (λ (ns : List ℕ). ns ++ ks) before.tokens ∙ (ap (λ (ns : List ℕ). part_tokens o.before ++ ns) (tokens ∙ said.tokens)
      ∙ (ap (λ (a : Action). part_tokens o.before ++ tokens_at a o.first (part_tokens ts)) (sym begins) ∙ sym (parts_behind o.before step ts)))) in
      let sorts : a_list ≡ sort_at next = sym (ap sort_of eg) ∙ e.outer.sort in (
        no_fault values text o ts last act.BeginItem begins refl refl,
        record {
          sort = ap sort_of member.body ∙ sorts;
          contains = subst (λ (x : Body D K A T). Contains says values text t x h.content.value more) (sym member.body) (record { members = all; tokens = there });
          named = subst (λ (k : FrameSort). NamesResults k h.names.items more) sorts tt;
        },
        began_other g h (body.List ms) (body.List ns) eg member.body (λ a w. w) refl member.first,
      )

  pub ended_block : (b : OpenBlock) (bs cs : Vec (Ptr BasicBlock) Global) → f.body ≡ body.Block b → g.body ≡ body.Region bs → h ≡ record g { body = body.Region cs } → Ended says values text t g h o next ts last
  ended_block b bs cs eb eg eh =
      let begins : o.action ≡ act.Label = begins_as (body.Block b) eb in
      let sorts : a_region ≡ sort_at next = sym (ap sort_of eg) ∙ e.outer.sort in (
        no_fault values text o ts last act.Label begins refl refl,
        subst (λ (x : opened.Open D K A T). IsFrame says values text t x next (behind o.before (ended_tree o ts last))) (sym eh) (record {
          sort = sorts;
          contains = tt;
          named = subst (λ (k : FrameSort). NamesResults k g.names.items (behind o.before (ended_tree o ts last))) sorts tt;
        }),
        began_other g h (body.Region bs) (body.Region cs) eg (ap (λ (x : opened.Open D K A T). x.body) eh) (λ a w. w) refl (ap (λ (x : opened.Open D K A T). x.first) eh),
      )
