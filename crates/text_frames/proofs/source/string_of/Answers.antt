use Rattle.std.proofs.Common.{◌≡◌, ◌<◌, ◌++◌, ◌∙◌, Bool, true, false, ap, sym, subst, drop, length, chars, string_bytes, arith}
use Rattle.ir_characters.specs.Texts.{codes_of}
use Rattle.ir_forest.specs.Meaning.{unescaped}
use Rattle.text_frames.proofs.Quotes.{left_from, none_taken, left_as, taken_as_it_is, taken_plain, escape_left}
use Rattle.text_frames.proofs.source.string_of.Goals as goal
use Rattle.text_frames.proofs.source.string_of.Goals.{then-is_escape+in_ok-push_character, else-is_escape+then-c-eq92, else-is_escape+else-c-eq92+else-c-eq34+in_ok-push_character-2}

pub loop-place-init : goal.loop-place-init
loop-place-init c = none_taken _ (drop 1 (codes_of c.args.text)) c.new-string.ensures.bytes

pub loop-place-preserved : goal.loop-place-preserved
loop-place-preserved c =
    let cs = codes_of c.args.text in
    let place = c.loop-place.place in
    let within : place < length cs = omega (arith, c.len-place-end.ensures.count, c.loop-place-test.true) in
    let now = chars (string_bytes c.loop-place.string) in
    let left_where : (b : Bool) → c.loop-place.is_escape ≡ b → now ++ left_from b (drop place cs) ≡ unescaped (drop 1 cs) =
    λ b e. subst (λ (x : Bool). now ++ left_from x (drop place cs) ≡ unescaped (drop 1 cs)) e c.loop-place.invariant in
    elim c.if-is_escape.branch [
      | then-is_escape+in_ok-push_character w ↦
          left_as _ _ _ _ false _ (ap (λ s. chars (string_bytes s)) w.string-is) w.is_escape-is
          (taken_as_it_is cs now _ _ place _ c.at-c.result within (sym c.at-c.ensures.character) (left_where true w.if-is_escape.true) w.in_ok-push_character.ensures)
      | else-is_escape+then-c-eq92 w ↦
          left_as _ _ _ _ true _ (ap (λ s. chars (string_bytes s)) w.string-is) w.is_escape-is
          (escape_left cs now _ place _ c.at-c.result within (sym c.at-c.ensures.character) w.if-c-eq92.true (left_where false w.if-is_escape.false))
      | else-is_escape+else-c-eq92+else-c-eq34+in_ok-push_character-2 w ↦
          left_as _ _ _ _ false _ (ap (λ s. chars (string_bytes s)) w.string-is) (w.is_escape-is ∙ w.if-is_escape.false)
          (taken_plain cs now _ _ place _ c.at-c.result within (sym c.at-c.ensures.character) w.if-c-eq92.false w.if-c-eq34.false (left_where false w.if-is_escape.false) w.in_ok-push_character-2.ensures)
    ]
