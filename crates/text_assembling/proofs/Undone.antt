-- Where nothing is made, all stays as it was.
use Rattle.std.proofs.Common.{◌≡◌, ◌∙◌, Result, Ok, Err, OnErr, OnOk, refl, ap, subst}
use Rattle.ir_program.specs.Edits.{KeepsErased}
use Rattle.ir_program.specs.Program.{Program}
use Rattle.ir_types.specs.Interned.{KeepsTypes}
use Rattle.ir_types.specs.Views.{TypesView}
use Rattle.text_dialect.specs.Seen.{Seen, seen}
use Rattle.ir_context.specs.Views.{ContextView}
use Rattle.ir_context.specs.declared.notes.BlockNotes.{BlockNotes}
use Rattle.ir_context.specs.declared.notes.OperationData.{OperationData}
use Rattle.ir_program.specs.declared.handles.IRNode.{IRNode}
use Rattle.std.specs.Prelude.{Vec}
use Rattle.std.specs.Global.{Global}
use Rattle.text_frames.specs.building.Kept.{KeepsPayloads, SameSeen}
use Rattle.text_frames.proofs.BuildingLemmas.Numbers.{gives_none}
use Rattle.text_frames.proofs.BuildingLemmas.Payloads.{payloads_none}
use Rattle.text_frames.specs.declared.assembly.Assembly.{Assembly}
use Rattle.text_assembling.specs.declared.assembling.Assembler.{Assembler}
use Rattle.text_assembling.specs.Steps.{IsUndone, UndoesStep}
use Rattle.text_assembling.proofs.Held.{held_list, held_same}
use Rattle.text_frames.specs.Raised.{HoldsAllNew}

module _ {O B : Type 0} where
  pub erased_same : (c d : Program O B) → d ≡ c → KeepsErased c d
  erased_same c d e = rw e (gives_none c).erased

  pub payloads_same : (c d : Program O B) → d ≡ c → KeepsPayloads c d
  payloads_same c d e = rw e (payloads_none c)

-- what is well holds where it is no error, and what is wrong where it is one
pub ok_unless : {X E P : Type 0} (r : Result X E) → ((e : E) → r ≡ Err e → ⊥) → OnOk r P → P
ok_unless (Ok x) not p = p
ok_unless (Err e) not p = absurd (not e refl)

pub err_at : {X E P : Type 0} (r : Result X E) (e : E) → r ≡ Err e → OnErr r P → P
err_at {X} {E} {P} r e is h = subst (λ (x : Result X E). OnErr x P) is h

-- what holds anyhow holds of an error
pub on_err_any : {X E P : Type 0} (r : Result X E) → P → OnErr r P
on_err_any (Ok x) p = tt
on_err_any (Err e) p = p

pub types_same : {K B S : Type 0} (c d : TypesView K B S) → d ≡ c → KeepsTypes c d
types_same c d e = rw e (λ ty key h. (h, refl))

module _ {K A T : Type 0} where
  pub seen_same : (s : Seen K A T) → SameSeen s s
  seen_same s = record { operations = λ p. refl; blocks = λ b. refl; regions = λ r. refl; types = λ n key e. e }

  pub same_both : (s t u : Seen K A T) → SameSeen s t → SameSeen t u → SameSeen s u
  same_both s t u f g = record {
    operations = λ p. g.operations p ∙ f.operations p;
    blocks = λ b. g.blocks b ∙ f.blocks b;
    regions = λ r. g.regions r ∙ f.regions r;
    types = λ n key e. g.types n key (f.types n key e);
  }

  pub undone_so : {D : Type 0} (s t : Seen K A T) (a c : Assembler D K A T) → SameSeen s t → c.made.loose.items ≡ a.made.loose.items → IsUndone s t a c
  undone_so s t a c same loose = record { loose = loose; same = same }

  pub undone_same : {D X E : Type 0} (r : Result X E) (s : Seen K A T) (a c : Assembler D K A T) → c.made ≡ a.made → OnErr r (IsUndone s s a c)
  undone_same (Ok x) s a c e = tt
  undone_same (Err x) s a c e = undone_so s s a c (seen_same s) (ap (λ (z : Assembly). z.loose.items) e)

  -- what is undone leaves all that came inside the loose things
  pub held_undone : {D : Type 0} (start s t : Seen K A T) (a c : Assembler D K A T) → IsUndone s t a c → HoldsAllNew start s a.made.loose.items → HoldsAllNew start t c.made.loose.items
  held_undone start s t a c undone h = held_list start t a.made.loose.items c.made.loose.items undone.loose (held_same start s t a.made.loose.items undone.same h)

module _ {D TypeKind AttrKind TypeBody Saved Location OpKind Attr TypeKey : Type 0}
    (c : ContextView (OperationData D TypeKind AttrKind TypeBody Saved Location OpKind Attr TypeKey) (BlockNotes D TypeKind AttrKind TypeBody Saved Location OpKind Attr TypeKey) (TypesView TypeKey TypeBody Saved))
    (a b : Assembler D OpKind Attr TypeKey) where
  pub undoes_loose : {X E : Type 0} (r : Result X E) → b.made.loose ≡ a.made.loose → OnErr r (UndoesStep c c a b)
  undoes_loose r e = on_err_any r (record { undone = undone_so (seen c) (seen c) a b (seen_same (seen c)) (ap (λ (v : Vec IRNode Global). v.items) e) })

pub undoes_same : {D TypeKind AttrKind TypeBody Saved Location OpKind Attr TypeKey X E : Type 0} (r : Result X E)
    (c : ContextView (OperationData D TypeKind AttrKind TypeBody Saved Location OpKind Attr TypeKey) (BlockNotes D TypeKind AttrKind TypeBody Saved Location OpKind Attr TypeKey) (TypesView TypeKey TypeBody Saved))
    (a b : Assembler D OpKind Attr TypeKey) → b.made ≡ a.made → OnErr r (UndoesStep c c a b)
undoes_same r c a b e = undoes_loose c a b r (ap (λ (z : Assembly). z.loose) e)
