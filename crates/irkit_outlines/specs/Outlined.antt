-- What is read of a text with marks and a section of outlined attributes, and what passes give of it.
use Rattle.std.specs.Prelude.{◌≡◌, ◌⊎◌, ℕ, List, [], None, chars, encode_utf8_all}
use Rattle.ir_characters.specs.Texts.{owned_codes}
use Rattle.ir_program.specs.declared.handles.Operation.{Operation}
use Rattle.ir_program.specs.declared.handles.Ptr.{Ptr}
use Rattle.kit.specs.Context.{KitContext}
use Rattle.kit_ops.specs.declared.pass.KitPass.{KitPass}
use Rattle.outlined_texts.specs.declared.splitting.OutlinedText.{OutlinedText}
use Rattle.outlined_texts.specs.Splits.{IsSplit}
use Rattle.irkit_refusals.specs.Refusals.{Deserves}
use Rattle.irkit_refusals.specs.Texts.{Overfills}
use Rattle.irkit_refusals.specs.declared.refusal.Refusal.{Refusal}
use Rattle.irkit_refusals.specs.declared.refusal.Refusal.TheVariants.{CounterFull, Memory, Read, Write}
use Rattle.irkit_running.specs.Outcomes.{Loads, PassesFillUp, RunGives}

-- The second bytes are the operations of the text that the first are: what is before its section, with each mark blanked.
pub record IsFront (text front : List ℕ) : Type 0 where
  pub split : OutlinedText
  pub splits : IsSplit (chars text) split
  pub spelt : front ≡ encode_utf8_all (owned_codes split.front)

-- The operations of a text were read into a context, as this operation.
pub record LoadsFront (text : List ℕ) (ctx new_ctx : KitContext) (root : Ptr Operation) : Type 0 where
  pub front : List ℕ
  pub is_front : IsFront text front
  pub loads : Loads front ctx new_ctx root

-- The text that passes give of the operations of a text: without names, marks and section.
pub record GivesPlain (passes : List KitPass) (text plain : List ℕ) : Type 0 where
  pub front : List ℕ
  pub is_front : IsFront text front
  pub gives : RunGives passes front plain

-- The text has no marks and no section.
abbrev pub IsBareText : List ℕ → Type 0
IsBareText text = (split : OutlinedText) → IsSplit (chars text) split → (split.section ≡ None) × (split.marks.items ≡ [])

-- Why bytes of a text without marks and section aren't read into a context: they deserve it, or overfill the context, or memory was refused.
-- That no read of bytes fails isn't said here.
abbrev pub IsRefused : List ℕ → KitContext → Refusal → Type 0
IsRefused text ctx Memory = Unit {0}
IsRefused text ctx Read = Unit {0}
IsRefused text ctx CounterFull = Overfills ctx.program.counter text
IsRefused text ctx (Write b) = ⊥
IsRefused text ctx fault = Deserves text fault

-- Why passes give no text of bytes of a text without marks and section, which is read into a new context: it isn't read, or some of the
-- passes leave too few numbers of values for the next, or memory was refused.
abbrev pub IsRefusedAfter : List KitPass → List ℕ → Refusal → Type 0
IsRefusedAfter passes text Memory = Unit {0}
IsRefusedAfter passes text Read = Unit {0}
IsRefusedAfter passes text CounterFull = Overfills 0 text ⊎ PassesFillUp passes text
IsRefusedAfter passes text (Write b) = ⊥
IsRefusedAfter passes text fault = Deserves text fault
