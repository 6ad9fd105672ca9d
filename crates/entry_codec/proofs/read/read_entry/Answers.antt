use Rattle.std.proofs.Common.{ℕ, refl, subst, arith}
use Rattle.entry_codec.specs.Spelling.{IsFirstFault}
use Rattle.entry_codec.proofs.Found.{left_within, read_stands, read_fits, read_found, short_from_fits, same_answer, stopped_at, stopped_unspelled, stopped_place}
use Rattle.entry_codec.proofs.read.read_entry.Goals as goal

pub overflow_sub-result : goal.overflow_sub-result
overflow_sub-result c = left_within _ _ c.in-Ok.ensures

pub overflow_sub-result-in-Err-Stopped : goal.overflow_sub-result-in-Err-Stopped
overflow_sub-result-in-Err-Stopped c = left_within _ _ (stopped_at _ _ _ c.in-Err-Stopped.field-0-is c.in-Err-Stopped.ensures)

pub returns-in-Ok-clause-found : goal.returns-in-Ok-clause-found
returns-in-Ok-clause-found c = read_found _ _ _ (read_stands _ _ _ (λ i. omega (arith, c.type_inv.bytes i)) c.in-Ok.ensures)

pub returns-in-Ok-clause-fits : goal.returns-in-Ok-clause-fits
returns-in-Ok-clause-fits c = read_fits _ _ _ (λ i. omega (arith, c.type_inv.bytes i)) c.in-Ok.ensures

pub returns-in-Ok-clause-short : goal.returns-in-Ok-clause-short
returns-in-Ok-clause-short c = short_from_fits _ (read_fits _ _ _ (λ i. omega (arith, c.type_inv.bytes i)) c.in-Ok.ensures)

pub returns-in-Ok-clause-again : goal.returns-in-Ok-clause-again
returns-in-Ok-clause-again c = λ entry rest fits stands more.
    same_answer _ _ _ _ rest (λ i. omega (arith, c.type_inv.bytes i)) c.in-Ok.ensures fits stands

pub returns-in-Ok-clause-refused : goal.returns-in-Ok-clause-refused
returns-in-Ok-clause-refused c = λ more.
    (λ wrong. absurd cc, λ unspelled. absurd (unspelled _ _ (read_fits _ _ _ (λ i. omega (arith, c.type_inv.bytes i)) c.in-Ok.ensures) (read_stands _ _ _ (λ i. omega (arith, c.type_inv.bytes i)) c.in-Ok.ensures)))

pub returns-in-Err-Stopped-clause-again : goal.returns-in-Err-Stopped-clause-again
returns-in-Err-Stopped-clause-again c = λ entry rest fits stands more.
    absurd (stopped_unspelled _ _ (stopped_at _ _ _ c.in-Err-Stopped.field-0-is c.in-Err-Stopped.ensures) entry rest fits stands)

pub returns-in-Err-Stopped-clause-refused : goal.returns-in-Err-Stopped-clause-refused
returns-in-Err-Stopped-clause-refused c = λ more.
    (λ _. stopped_unspelled _ _ (stopped_at _ _ _ c.in-Err-Stopped.field-0-is c.in-Err-Stopped.ensures), λ _. refl)

pub returns-in-Err-Stopped-clause-place : goal.returns-in-Err-Stopped-clause-place
returns-in-Err-Stopped-clause-place c = λ at e.
    subst (λ (n : ℕ). IsFirstFault c.args.bytes.now n) (cc) (stopped_place _ _ (λ i. omega (arith, c.type_inv.bytes i)) (stopped_at _ _ _ c.in-Err-Stopped.field-0-is c.in-Err-Stopped.ensures))
