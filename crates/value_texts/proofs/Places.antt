-- Places that lie behind one another, and tokens between them.
use Rattle.std.proofs.Common.{◌≡◌, ◌<◌, ◌≤◌, ◌∙◌, ℕ, Bool, true, false, ◌&&◌, List, [], ◌∷◌, ◌++◌, length, refl, sym, ap, subst, append_assoc, length-append, arith}
use Rattle.ir_tokens.specs.declared.tokens.TokenKind.{TokenKind}
use Rattle.ir_tokens.specs.declared.tokens.TokenKind.TheVariants.{Bad}
use Rattle.ir_tokens.proofs.TokenSteps.{spells_after}
use Rattle.ir_format_checks.specs.Tokens.{TokenClass, given, is_sign_or_name}
use Rattle.text_streams.specs.declared.position.Position.{Position}
use Rattle.text_streams.specs.Positions.{left, place, behind, behind_all, LiesBehind}
use Rattle.stream_tokens.specs.declared.lexemes.Lexeme.{Lexeme}
use Rattle.stream_tokens.specs.Lexemes.{IsLexeme}
use Rattle.value_texts.specs.Tokens.{TakesToken, TakesLexeme}
use Rattle.token_classes.specs.Classes.{is_lexeme_of}
use Rattle.value_texts.specs.declared.progress.Progress.{Progress}
use Rattle.value_texts.specs.Progress.{GoesTo, TookWord}

behind_append : (at : ℕ × ℕ) (cs ds : List ℕ) → behind_all (behind_all at cs) ds ≡ behind_all at (cs ++ ds)
behind_append at [] ds = refl
behind_append at (c ∷ cs) ds = behind_append (behind at c) cs ds

pub behind_both : (a b c : Position) (cs ds : List ℕ) → LiesBehind a b cs → LiesBehind b c ds → LiesBehind a c (cs ++ ds)
behind_both a b c cs ds h k = record {
  taken = h.taken ∙ (ap (λ (xs : List ℕ). cs ++ xs) k.taken ∙ sym (append_assoc cs ds (left c)));
  counted = k.counted ∙ (ap (λ at. behind_all at ds) h.counted ∙ behind_append (place a) cs ds);
}

pub goes_nowhere : (a : Position) → GoesTo a a
goes_nowhere a = record { taken = []; behind = record { taken = refl; counted = refl } }

pub goes_both : (a b c : Position) → GoesTo a b → GoesTo b c → GoesTo a c
goes_both a b c h k = record { taken = h.taken ++ k.taken; behind = behind_both a b c h.taken k.taken h.behind k.behind }

-- what is left is no longer
pub goes_on : (a b : Position) → GoesTo a b → length (left b) ≤ length (left a)
goes_on a b h =
    let whole : length (left a) ≡ length (h.taken ++ left b) = ap (λ (xs : List ℕ). length xs) h.behind.taken in
    let both = length-append h.taken (left b) in
    omega (arith, whole, both)

module _ (from : Position) (token : Lexeme) (lexeme : IsLexeme from token) where
  pub goes_behind : GoesTo from token.end
  goes_behind = record { taken = _; behind = behind_both from token.start token.end _ token.text.items lexeme.before lexeme.behind }

  pub token_taken : (c : TokenClass) → TakesLexeme c from token → TakesToken c (left from) token.text.items (left token.end)
  token_taken c h = record { kind = token.kind; next = h.lexeme.next; class = h.class }

  not_bad : (k : TokenKind) → is_sign_or_name k ≡ true → k ≡ Bad → ⊥
  not_bad k h e = let no : true ≡ false = sym h ∙ ap is_sign_or_name e in cc

  -- behind a sign or a name less is left
  pub less_left : is_sign_or_name token.kind ≡ true → length (left token.end) < length (left from)
  less_left h =
      let some : 0 < length token.text.items = spells_after (token.text.items ++ left token.end) 0 (length token.text.items) token.kind lexeme.next.longest.spelled (not_bad token.kind h) in
      let whole : length (left token.start) ≡ length (token.text.items ++ left token.end) = ap (λ (xs : List ℕ). length xs) lexeme.behind.taken in
      let both = length-append token.text.items (left token.end) in
      let before = goes_on from token.start (record { taken = _; behind = lexeme.before }) in
      omega (arith, some, whole, both, before)

and_left : (a b : Bool) → (a && b) ≡ true → a ≡ true
and_left true b h = refl
and_left false b h = cc

-- a word that was the next token, behind which reading goes on
pub word_taken : {P : Type 0} (w : List ℕ) (old new : Progress P) (token : Lexeme) → IsLexeme old.at token → is_lexeme_of token (given w) ≡ true
    → new.parts ≡ old.parts → new.at ≡ token.end → TookWord w old new
word_taken w old new token lexeme class parts at = record {
  text = token.text.items;
  token = subst (λ (p : Position). TakesToken (given w) (left old.at) token.text.items (left p)) (sym at)
      (token_taken old.at token lexeme (given w) (record { lexeme = lexeme; class = class }));
  behind = subst (λ (p : Position). GoesTo old.at p) (sym at) (goes_behind old.at token lexeme);
  parts = parts;
  less = subst (λ (p : Position). length (left p) < length (left old.at)) (sym at) (less_left old.at token lexeme (and_left (is_sign_or_name token.kind) _ class));
}
