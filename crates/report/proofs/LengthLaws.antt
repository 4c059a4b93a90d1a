-- How long the lines are that tell a refusal or answer a question. Numbers of questions have 64 bits.
use Rattle.std.proofs.Common.{ℕ, ◌+◌, ◌^◌, ◌≤◌, ◌<◌, List, arith, length, length-append}
use Rattle.policy.proofs.FaultLaws.{fault_number_small}
use Rattle.policy.specs.Fault.{fault_number, source_number}
use Rattle.policy.specs.declared.fault.Fault.{Fault}
use Rattle.policy.specs.declared.fault.Refusal.{Refusal}
use Rattle.policy.specs.declared.fault.Source.{Source}
use Rattle.lexer.specs.Byte.{bytes}
use Rattle.output.specs.Number.{decimal}
use Rattle.output.proofs.DecimalLaws.{decimal_few, decimal_short}
use Rattle.report.specs.Report.{refusal_line, texts_refusal_line, not_proposed_line, shown_line, not_explained_line}

-- a fault's number has at most two digits, and a text's has one
pub fault_digits : (f : Fault) → length (decimal (fault_number f)) ≤ 2
fault_digits f = decimal_few (fault_number f) 1 (omega (arith, fault_number_small f))

source_digits : (s : Source) → length (decimal (source_number s)) ≤ 1
source_digits s = decimal_few (source_number s) 0 (grind arith)

-- ---- refused texts

pub refusal_short : (x : Refusal) → x.location < 2 ^ 64 → length (refusal_line x) ≤ 64
unfolding refusal_line bytes
refusal_short x h = simp length-append (omega (arith, fault_digits x.fault, decimal_short x.location h))

pub texts_refusal_short : (x : Refusal) → x.location < 2 ^ 64 → length (texts_refusal_line x) ≤ 64
unfolding texts_refusal_line bytes
texts_refusal_short x h = simp length-append (omega (arith, fault_digits x.fault, source_digits x.source, decimal_short x.location h))

-- ---- the answers to questions

pub not_proposed_short : (n : ℕ) → n < 2 ^ 64 → length (not_proposed_line n) ≤ 34
unfolding not_proposed_line bytes
not_proposed_short n h = simp length-append (omega (arith, decimal_short n h))

pub not_explained_short : (n : ℕ) (f : Fault) → n < 2 ^ 64 → length (not_explained_line n f) ≤ 34
unfolding not_explained_line bytes
not_explained_short n f h = simp length-append (omega (arith, decimal_short n h, fault_digits f))

pub shown_short : (n : ℕ) (became : List ℕ) (s : Source) (part : List ℕ) → n < 2 ^ 64 → length (shown_line n became s part) ≤ 23 + length became + length part
unfolding shown_line bytes
shown_short n became s part h = simp length-append (omega (arith, decimal_short n h, source_digits s))
