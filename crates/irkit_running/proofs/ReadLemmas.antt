-- From bytes to a module of a context, from what the steps in between did.
use Rattle.std.proofs.Common.{◌≡◌, ℕ, ◌+◌, ◌^◌, ◌≤◌, List, [], ◌∷◌, Option, Some, None, option_map, Result, Ok, Err, IsSome, refl, sym, ap, subst, ◌∙◌, chars}
use Rattle.std.specs.Prelude.{IsUtf8, IsErrAnd, IfErr, OnErr}
use Rattle.ir_program.specs.Program.{operation_at}
use Rattle.ir_program.specs.declared.handles.IRNode.TheVariants.{Operation as OperationNode}
use Rattle.ir_program.specs.declared.handles.Operation.{Operation}
use Rattle.ir_program.specs.declared.handles.Ptr.{Ptr}
use Rattle.ir_rereading.specs.Texts.{IsRefusal, HasDefinitions, Says}
use Rattle.ir_tokens.specs.declared.faults.TextFault.{TextFault}
use Rattle.ir_tokens.specs.declared.faults.TextFault.TheVariants as text
use Rattle.ir_trees.specs.Stands.{StandsFor}
use Rattle.kit.specs.Context.{KitContext, KitTree}
use Rattle.kit_checks.specs.Faults.{IsVerdict}
use Rattle.kit_checks.specs.World.{world_of}
use Rattle.kit_checks.specs.declared.rule.RuleFault.{RuleFault}
use Rattle.kit_checks.specs.declared.rule.RuleFault.TheVariants as rule
use Rattle.irkit_running.specs.Known.{KitSeen}
use Rattle.kit_language.specs.Language.{kit_language}
use Rattle.kit_ruled_passes.specs.Entering.{IsEnteredNowhere}
use Rattle.kit_ruled_views.specs.Functions.{IsSelfContained}
use Rattle.kit.specs.Says.{says}
use Rattle.text_frames.specs.building.Kept.{SameSeen}
use Rattle.text_dialect.specs.Seen.{Seen, seen}
use Rattle.text_frames.specs.Raised.{HoldsAllNew}
use Rattle.text_reading.specs.Understood.{IsRead}
use Rattle.irkit_streams.specs.Ends.{Decodes, EndsReading, GaveAll}
use Rattle.irkit_streams.specs.declared.faults.DecodeFault.{DecodeFault}
use Rattle.irkit_streams.specs.declared.faults.DecodeFault.TheVariants as decode
use Rattle.irkit_streams.specs.declared.faults.ReadFault.{ReadFault}
use Rattle.irkit_streams.specs.declared.faults.ReadFault.TheVariants as read
use Rattle.irkit_streams.specs.declared.watched.Watched.{Watched}
use Rattle.irkit_running.specs.Outcomes.{EndsLoad, Loads, Understands}
use Rattle.irkit_refusals.specs.Refusals.{of_decode_fault, of_read_fault, of_rule_fault, of_text_fault}
use Rattle.irkit_refusals.specs.Texts.{HoldsText, IsSaidBy, Overfills}
use Rattle.irkit_refusals.specs.declared.refusal.Refusal.{Refusal}
use Rattle.irkit_refusals.specs.declared.refusal.Refusal.TheVariants.{NotUtf8, Syntax, TooDeep, Scope, Rule, Memory, CounterFull, Read, Write}

-- what holds at an error holds at a result that is this error
pub at_error : {X E : Type 0} (P : Result X E → Type 0) (r : Result X E) (e : E) → IsErrAnd r (λ x. x ≡ e) → P (Err e) → P r
at_error P (Ok x) e is h = absurd is
at_error P (Err x) e is h = subst (λ y. P (Err y)) (sym is) h

-- a context is seen as it is
pub same_itself : {K A T : Type 0} (s : Seen K A T) → SameSeen s s
same_itself s = record {
  operations = λ p. refl;
  blocks = λ b. refl;
  regions = λ r. refl;
  types = λ n key h. h;
}

mapped_there : {X Y : Type 0} (f : X → Y) (o : Option X) → IsSome (option_map f o) → IsSome o
mapped_there f None h = h
mapped_there f (Some x) h = refl

-- an operation that is seen is there
pub seen_there : (s : KitContext) (p : Ptr Operation) → IsSome ((seen s).operation p) → IsSome (operation_at s.program p)
seen_there s p there = mapped_there _ (operation_at s.program p) there

-- the root of what was read is there
pub root_there : (start s : KitSeen) (root : Ptr Operation) → HoldsAllNew start s (OperationNode root ∷ []) → IsSome (s.operation root)
root_there start s root new = (new.loose.loose 0 (OperationNode root) refl).there

undecoded_for : {V : Type 0} (bytes : List ℕ) (items : V → List ℕ) (ctx : KitContext) (f : DecodeFault)
    → Decodes bytes {V = V} items (Err f) → Understands bytes ctx ctx (Err (of_decode_fault f))
undecoded_for bytes items ctx (decode.NotUtf8 at) h = (h, same_itself (seen ctx))
undecoded_for bytes items ctx decode.Memory h = same_itself (seen ctx)

-- bytes that aren't decoded aren't understood
pub undecoded : {V : Type 0} (bytes : List ℕ) (items : V → List ℕ) (d : Result V DecodeFault) (ctx : KitContext) (f : DecodeFault)
    (r : Result (Ptr Operation) Refusal) → d ≡ Err f → Decodes bytes items d → IsErrAnd r (λ x. x ≡ of_decode_fault f)
    → Understands bytes ctx ctx r
undecoded bytes items d ctx f r was h is =
    at_error (Understands bytes ctx ctx) r (of_decode_fault f) is (undecoded_for bytes items ctx f (subst (Decodes bytes items) was h))

-- the text has more definitions of values than numbers are left above the counter
abbrev pub TextOverfills : KitContext → List ℕ → Type 0
TextOverfills s cs = (n : ℕ) × HasDefinitions kit_language cs n × (2 ^ 64 ≤ s.program.counter + n)

overfilled : (s : KitContext) (bytes cs : List ℕ) → IsUtf8 bytes → cs ≡ chars bytes → TextOverfills s cs
    → Overfills s.program.counter bytes
overfilled s bytes cs utf8 spelt (n, defines, over) =
    (utf8, (n, subst (λ xs. HasDefinitions kit_language xs n) spelt defines, over))

misread_for : (bytes : List ℕ) (old new : KitContext) (f : TextFault) → IsUtf8 bytes → IsRefusal kit_language (chars bytes) f
    → (f ≡ text.CounterFull → Overfills old.program.counter bytes) → SameSeen (seen old) (seen new)
    → Understands bytes old new (Err (of_text_fault f))
misread_for bytes old new text.Memory utf8 refused full same = same
misread_for bytes old new text.CounterFull utf8 refused full same = (full refl, same)
misread_for bytes old new (text.Syntax l k) utf8 refused full same = ((utf8, refused), same)
misread_for bytes old new (text.TooDeep l k) utf8 refused full same = ((utf8, refused), same)
misread_for bytes old new (text.Scope l k c) utf8 refused full same = ((utf8, refused), same)

-- a text that isn't read
pub misread : {X : Type 0} (bytes cs : List ℕ) (old new : KitContext) (parsed : Result X TextFault) (f : TextFault)
    (r : Result (Ptr Operation) Refusal) → parsed ≡ Err f → IsErrAnd r (λ x. x ≡ of_text_fault f) → IsUtf8 bytes → cs ≡ chars bytes
    → IfErr parsed (IsRefusal kit_language cs) → (parsed ≡ Err text.CounterFull → TextOverfills old cs)
    → OnErr parsed (SameSeen (seen old) (seen new)) → Understands bytes old new r
misread bytes cs old new parsed f r was is utf8 spelt refused full same =
    at_error (Understands bytes old new) r (of_text_fault f) is
    (misread_for bytes old new f utf8
    (subst (λ xs. IsRefusal kit_language xs f) spelt (subst (λ p. IfErr p (IsRefusal kit_language cs)) was refused))
    (λ e. overfilled old bytes cs utf8 spelt (full (was ∙ ap Err e)))
    (subst (λ p. OnErr p (SameSeen (seen old) (seen new))) was same))

-- what was read is what the bytes say
pub said : (bytes cs : List ℕ) (old s : KitContext) (root : Ptr Operation) → IsUtf8 bytes → cs ≡ chars bytes
    → (read : IsRead says kit_language cs (seen old) (seen s) old.program.counter s.program.counter root)
    → HoldsText read.tells.tree s root → IsSaidBy bytes s root
said bytes cs old s root utf8 spelt read holds = record {
  text = read.tells.tree;
  says_it = (utf8, subst (λ xs. Says kit_language xs read.tells.tree) spelt read.tells.said);
  holds = holds;
}

misruled_for : (bytes : List ℕ) (old new read : KitContext) (root : Ptr Operation) (f : RuleFault)
    → (is : IsSaidBy bytes read root) → IsVerdict (world_of read) is.holds.tree {X = Unit {0}} (Err f)
    → SameSeen (seen old) (seen new) → Understands bytes old new (Err (of_rule_fault f))
misruled_for bytes old new read root rule.Memory is verdict same = same
misruled_for bytes old new read root (rule.Broken n p) is verdict same =
    (record { context = read; root = root; said = is; first = verdict }, same)

-- a module that breaks a rule
pub misruled : (bytes : List ℕ) (old new read : KitContext) (root : Ptr Operation) (f : RuleFault) (r : Result (Ptr Operation) Refusal)
    → r ≡ Err (of_rule_fault f) → (is : IsSaidBy bytes read root)
    → ((t : KitTree) → StandsFor read.program root t → IsVerdict (world_of read) t {X = Unit {0}} (Err f))
    → SameSeen (seen old) (seen new) → Understands bytes old new r
misruled bytes old new read root f r was is verdict same =
    subst (Understands bytes old new) (sym was)
    (misruled_for bytes old new read root f is (verdict is.holds.tree is.holds.is_tree) same)

-- a module that is accepted
pub accepted : (bytes cs : List ℕ) (old s : KitContext) (root : Ptr Operation) → (utf8 : IsUtf8 bytes) → (spelt : cs ≡ chars bytes)
    → (read : IsRead says kit_language cs (seen old) (seen s) old.program.counter s.program.counter root)
    → HoldsText read.tells.tree s root
    → ((t : KitTree) → StandsFor s.program root t → IsVerdict (world_of s) t {X = Unit {0}} (Ok tt))
    → IsEnteredNowhere s root → IsSelfContained s root → Loads bytes old s root
unfolding said
accepted bytes cs old s root utf8 spelt read holds verdict entered contained = record {
  accepted = (said bytes cs old s root utf8 spelt read holds, verdict);
  holds = record {
    live = seen_there s root (root_there (seen old) (seen s) root read.new);
    rules = verdict;
    entered = entered;
    contained = contained;
  };
  new = read.new;
  counted = read.tells.counted;
}

module _ {R : Type 0} (remaining : R → Option (List ℕ)) (old new : Watched R) where
  unread_for : {V : Type 0} (items : V → List ℕ) (ctx : KitContext) (f : ReadFault)
      → EndsReading remaining old new {V = V} (2 ^ 40) items (Err f) → EndsLoad remaining old new ctx ctx (Err (of_read_fault f))
  unread_for items ctx read.Read h = (h, same_itself (seen ctx))
  unread_for items ctx read.Memory h = (h, same_itself (seen ctx))

  -- an input that isn't read to its end isn't loaded
  pub unread : {V : Type 0} (items : V → List ℕ) (given : Result V ReadFault) (ctx : KitContext) (f : ReadFault)
      (r : Result (Ptr Operation) Refusal) → given ≡ Err f → EndsReading remaining old new (2 ^ 40) items given
      → IsErrAnd r (λ x. x ≡ of_read_fault f) → EndsLoad remaining old new ctx ctx r
  unread items given ctx f r was h is =
      at_error (EndsLoad remaining old new ctx ctx) r (of_read_fault f) is
      (unread_for items ctx f (subst (EndsReading remaining old new (2 ^ 40) items) was h))

  -- what is made of all bytes that the reader gave
  pub loaded : (bytes : List ℕ) (ctx new_ctx : KitContext) (r : Result (Ptr Operation) Refusal) → GaveAll remaining old new bytes
      → Understands bytes ctx new_ctx r → EndsLoad remaining old new ctx new_ctx r
  loaded bytes ctx new_ctx (Ok root) gave h = (bytes, gave, h)
  loaded bytes ctx new_ctx (Err (NotUtf8 b)) gave h = ((bytes, gave, h.0), h.1)
  loaded bytes ctx new_ctx (Err (Syntax l k)) gave h = ((bytes, gave, h.0), h.1)
  loaded bytes ctx new_ctx (Err (TooDeep l k)) gave h = ((bytes, gave, h.0), h.1)
  loaded bytes ctx new_ctx (Err (Scope l k c)) gave h = ((bytes, gave, h.0), h.1)
  loaded bytes ctx new_ctx (Err (Rule n p)) gave h = ((bytes, gave, h.0), h.1)
  loaded bytes ctx new_ctx (Err Memory) gave h = (gave.2, h)
  loaded bytes ctx new_ctx (Err CounterFull) gave h = ((bytes, gave, h.0), h.1)
  loaded bytes ctx new_ctx (Err Read) gave h = absurd h.0
  loaded bytes ctx new_ctx (Err (Write b)) gave h = absurd h.0
