-- `push_accepted` meets its contract: the header and the lines of the entries before this one are put.
use Rattle.std.proofs.Common.{◌≡◌, sym, ◌∙◌, ap, List, ℕ, ◌++◌, arith}
use mathlib.Core.List.{append-nil}
use Rattle.theory.specs.Lists.{each}
use Rattle.theory.specs.Monitor.{state_limit}
use Rattle.collection.specs.Contents.{count_of}
use Rattle.listing_text.specs.Listing.{header_text, entry_line}
use Rattle.listing_text.proofs.Texts.{line_more}
use Rattle.listing_text.proofs.push_accepted.Goals as goal

pub loop-i-init : goal.loop-i-init
unfolding each
loop-i-init c =
    let header : c.push.new.self ≡ header_text = c.push.ensures ∙ ap (λ (l : List ℕ). l ++ header_text) c.requires.3 in
    (header ∙ sym (append-nil header_text), rw header (omega arith))

pub loop-i-preserved : goal.loop-i-preserved
loop-i-preserved c =
    let at = c.loop-i in
    let put = c.push_line.ensures in
    (line_more (entry_line state_limit c.args.file.now) header_text at.i at.invariant.0 put.line, omega (arith, put.short, at.invariant.1))

pub returns : goal.returns
returns c =
    let all : c.loop-i.i ≡ count_of c.args.file.now = omega (arith, c.requires.1, c.loop-i-test.false) in
    c.loop-i.invariant.0 ∙ ap (λ (i : ℕ). header_text ++ each i (entry_line state_limit c.args.file.now)) all
