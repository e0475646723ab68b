use Rattle.std.proofs.Common.{◌≡◌, ◌+◌, ◌-◌, ◌≤◌, length, drop, arith, length-drop}
use Rattle.std.specs.Char.{is_ascii_alphabetic}
use Rattle.std.specs.List.{prefix_len}
use Rattle.twp_grammar.proofs.WordFacts.{letters_within, long_size, long_word_is}
use Rattle.twp_grammar.proofs.cutting.long_word.Goals as goal

pub count_letters-size-requires : goal.count_letters-size-requires
count_letters-size-requires c = letters_within c.args.text.now c.args.at c.requires.place c.requires.long

pub overflow_add-size : goal.overflow_add-size
overflow_add-size c =
    let within : c.args.at + 4 ≤ length c.args.text.now =
    letters_within c.args.text.now c.args.at c.requires.place c.requires.long in
    let few : c.count_letters-size.result ≤ length (drop (c.args.at + 4) c.args.text.now) =
    c.count_letters-size.ensures.range in
    let left : length (drop (c.args.at + 4) c.args.text.now) ≡ length c.args.text.now - (c.args.at + 4) =
    length-drop (c.args.at + 4) c.args.text.now in
    omega arith

pub kind_of_long-requires-clause-size : goal.kind_of_long-requires-clause-size
kind_of_long-requires-clause-size c =
    let within : c.args.at + 4 ≤ length c.args.text.now =
    letters_within c.args.text.now c.args.at c.requires.place c.requires.long in
    let few : c.count_letters-size.result ≤ length (drop (c.args.at + 4) c.args.text.now) =
    c.count_letters-size.ensures.range in
    let left : length (drop (c.args.at + 4) c.args.text.now) ≡ length c.args.text.now - (c.args.at + 4) =
    length-drop (c.args.at + 4) c.args.text.now in
    let all : length (drop c.args.at c.args.text.now) ≡ length c.args.text.now - c.args.at =
    length-drop c.args.at c.args.text.now in
    omega arith

pub returns : goal.returns
returns c =
    let size : 4 + c.count_letters-size.result
    ≡ prefix_len is_ascii_alphabetic (drop c.args.at c.args.text.now) =
    long_size c.args.text.now c.args.at c.count_letters-size.result c.requires.long
    c.count_letters-size.ensures.value in
    long_word_is (drop c.args.at c.args.text.now) c.kind_of_long.result (4 + c.count_letters-size.result) size
    (omega arith) c.kind_of_long.ensures
