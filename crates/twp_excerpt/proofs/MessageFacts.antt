-- The parts of a message, one after another.
use Rattle.std.proofs.Common.{◌≡◌, ℕ, false, List, [], ◌∷◌, ◌++◌, ◌==◌, length, refl, sym, ap, ◌∙◌}
use Rattle.std.proofs.Common.{append_assoc, ◌+◌, ◌-◌, arith, length-append}
use Rattle.std.proofs.Common.{true≢false, subst}
use Rattle.std.specs.Prelude.{encode_utf8_all}
use Rattle.twp_excerpt.specs.Messages.{AddsHelp, IsInParts, IsMessage, message_head, extract_text}
use Rattle.twp_excerpt.specs.Shown.{AddsEnded, AddsLines}
use Rattle.twp_excerpt.specs.declared.message.Message.{Message}
use Rattle.twp_excerpt.specs.declared.message.MessageParts.{MessageParts}
use Rattle.twp_excerpt.proofs.ShownFacts.{all_lines, own_text}

-- help that isn't empty begins with two spaces
pub help_added : (help old middle new : List ℕ) → (length help == 0) ≡ false
    → middle ≡ old ++ encode_utf8_all (32 ∷ 32 ∷ [])
    → AddsEnded middle new → AddsHelp help old new
help_added [] old middle new some spaces lines = absurd (true≢false some)
help_added (byte ∷ rest) old middle new some spaces lines =
    let added = lines.lines ++ 10 ∷ [] in (
      32 ∷ 32 ∷ added,
      lines.new_is
          ∙ ap (λ t. t ++ added) (spaces ∙ ap (λ t. old ++ t) (sym (own_text (32 ∷ 32 ∷ []) refl)))
          ∙ append_assoc old (32 ∷ 32 ∷ []) added,
      (added, refl),
    )

-- the text of a message by its parts
pub message_is : (message : Message) (start head sentence extract text : List ℕ) → start ≡ []
    → head ≡ start ++ encode_utf8_all (message_head message.name.now message.heading)
    → AddsEnded head sentence → extract ≡ sentence ++ encode_utf8_all (extract_text message.extract)
    → AddsHelp message.help.now extract text → AddsLines start text
    → IsMessage message text
message_is message start head sentence extract text none head_is sentence_is extract_is help_is lines =
    let head_text = encode_utf8_all (message_head message.name.now message.heading) in
    let line = sentence_is.lines in
    let shown = encode_utf8_all (extract_text message.extract) in
    let added = help_is.0 in
    let begun : head ≡ head_text = head_is ∙ ap (λ t. t ++ head_text) none in
    record {
      sentence = line;
      help = added;
      text_is =
          help_is.1 ∙ ap (λ t. t ++ added) extract_is
          ∙ ap (λ t. (t ++ shown) ++ added) sentence_is.new_is
          ∙ ap (λ t. ((t ++ (line ++ 10 ∷ [])) ++ shown) ++ added) begun
          ∙ simp append_assoc;
      helps = help_is.2;
      shown = all_lines text (subst (λ t. AddsLines t text) none lines);
    }

-- and where they are, by the length of the text after each
pub in_parts : (message : Message) (start head sentence extract text : List ℕ) (parts : MessageParts)
    → start ≡ []
    → head ≡ start ++ encode_utf8_all (message_head message.name.now message.heading)
    → AddsEnded head sentence → extract ≡ sentence ++ encode_utf8_all (extract_text message.extract)
    → AddsHelp message.help.now extract text → AddsLines start text
    → parts.sentence.start ≡ length head → parts.sentence.end ≡ length sentence - 1
    → parts.excerpt.start ≡ length sentence → parts.excerpt.end ≡ length extract
    → parts.help.start ≡ length extract → parts.help.end ≡ length text
    → IsInParts message text parts
unfolding message_is
in_parts message start head sentence extract text parts none head_is sentence_is extract_is help_is lines
    sentence_at sentence_to excerpt_at excerpt_to help_at help_to =
    let head_text = encode_utf8_all (message_head message.name.now message.heading) in
    let line = sentence_is.lines in
    let shown = encode_utf8_all (extract_text message.extract) in
    let begun : head ≡ head_text = head_is ∙ ap (λ t. t ++ head_text) none in
    let line_size : length sentence ≡ length head + (length line + 1) =
    ap length sentence_is.new_is ∙ length-append head (line ++ 10 ∷ [])
    ∙ ap (λ n. length head + n) (length-append line (10 ∷ [])) in
    let shown_size : length extract ≡ length sentence + length shown =
    ap length extract_is ∙ length-append sentence shown in
    record {
      is =
          message_is message start head sentence extract text none head_is sentence_is extract_is help_is
          lines;
      sentence_starts = sentence_at ∙ ap length begun;
      sentence_ends = omega (arith, sentence_at, sentence_to, line_size);
      excerpt_starts = omega (arith, sentence_at, sentence_to, excerpt_at, line_size);
      excerpt_ends = omega (arith, excerpt_at, excerpt_to, shown_size);
      help_starts = help_at ∙ sym excerpt_to;
      help_ends = help_to;
    }
