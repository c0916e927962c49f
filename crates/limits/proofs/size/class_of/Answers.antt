-- The types of each arm are of its class, one after the other: computed over document 01's lists.
use mathlib.Core.Path.{refl}
use native.Mathlib.Omega.{arith}
use Rattle.limits.specs.Test.{◌&◌}
use Rattle.limits.specs.Size.{class_of, listed, point_types, system_types, process_types, end_types}
use Rattle.limits.proofs.Sizes.{spans, class_number}
use Rattle.limits.proofs.size.class_of.Goals as goal

pub returns-in_default : goal.returns-in_default
unfolding class_of listed point_types system_types process_types end_types class_number ◌&◌
returns-in_default c = spans 0 300 0 1 refl c.args.kind (omega arith) (omega arith) (λ e. omega arith)

pub returns-in-1-to-7 : goal.returns-in-1-to-7
unfolding class_of listed point_types system_types process_types end_types class_number ◌&◌
returns-in-1-to-7 c = spans 1 300 1 7 refl c.args.kind (omega arith) (omega arith) (λ e. omega arith)

pub returns-in_default-2 : goal.returns-in_default-2
unfolding class_of listed point_types system_types process_types end_types class_number ◌&◌
returns-in_default-2 c = spans 0 300 8 1 refl c.args.kind (omega arith) (omega arith) (λ e. omega arith)

pub returns-in-1-to-7-2 : goal.returns-in-1-to-7-2
unfolding class_of listed point_types system_types process_types end_types class_number ◌&◌
returns-in-1-to-7-2 c = spans 1 300 9 7 refl c.args.kind (omega arith) (omega arith) (λ e. omega arith)

pub returns-in_default-3 : goal.returns-in_default-3
unfolding class_of listed point_types system_types process_types end_types class_number ◌&◌
returns-in_default-3 c = spans 0 300 16 1 refl c.args.kind (omega arith) (omega arith) (λ e. omega arith)

pub returns-in-1-to-7-3 : goal.returns-in-1-to-7-3
unfolding class_of listed point_types system_types process_types end_types class_number ◌&◌
returns-in-1-to-7-3 c = spans 1 300 17 5 refl c.args.kind (omega arith) (omega arith) (λ e. omega arith)

pub returns-in_default-4 : goal.returns-in_default-4
unfolding class_of listed point_types system_types process_types end_types class_number ◌&◌
returns-in_default-4 c = spans 0 300 22 8 refl c.args.kind (omega arith) (omega arith) (λ e. omega arith)

pub returns-in-1-to-7-4 : goal.returns-in-1-to-7-4
unfolding class_of listed point_types system_types process_types end_types class_number ◌&◌
returns-in-1-to-7-4 c = spans 1 300 30 11 refl c.args.kind (omega arith) (omega arith) (λ e. omega arith)

pub returns-in_default-5 : goal.returns-in_default-5
unfolding class_of listed point_types system_types process_types end_types class_number ◌&◌
returns-in_default-5 c = spans 0 300 41 4 refl c.args.kind (omega arith) (omega arith) (λ e. omega arith)

pub returns-in-45-to-51 : goal.returns-in-45-to-51
unfolding class_of listed point_types system_types process_types end_types class_number ◌&◌
returns-in-45-to-51 c = spans 3 300 45 7 refl c.args.kind (omega arith) (omega arith) (λ e. omega arith)

pub returns-in_default-6 : goal.returns-in_default-6
unfolding class_of listed point_types system_types process_types end_types class_number ◌&◌
returns-in_default-6 c = spans 0 300 52 6 refl c.args.kind (omega arith) (omega arith) (λ e. omega arith)

pub returns-in-45-to-51-2 : goal.returns-in-45-to-51-2
unfolding class_of listed point_types system_types process_types end_types class_number ◌&◌
returns-in-45-to-51-2 c = spans 3 300 58 7 refl c.args.kind (omega arith) (omega arith) (λ e. omega arith)

pub returns-in_default-7 : goal.returns-in_default-7
unfolding class_of listed point_types system_types process_types end_types class_number ◌&◌
returns-in_default-7 c = spans 0 70 65 35 refl c.args.kind (omega arith) (omega arith) (λ e. omega arith)

pub returns-in-70 : goal.returns-in-70
unfolding class_of listed point_types system_types process_types end_types class_number ◌&◌
returns-in-70 c = spans 4 300 70 1 refl c.args.kind (omega arith) (omega arith) (λ e. omega arith)

pub returns-in-100-to-105-2 : goal.returns-in-100-to-105-2
unfolding class_of listed point_types system_types process_types end_types class_number ◌&◌
returns-in-100-to-105-2 c = spans 2 300 100 6 refl c.args.kind (omega arith) (omega arith) (λ e. omega arith)

pub returns-in-100-to-105 : goal.returns-in-100-to-105
unfolding class_of listed point_types system_types process_types end_types class_number ◌&◌
returns-in-100-to-105 c = spans 2 300 107 1 refl c.args.kind (omega arith) (omega arith) (λ e. omega arith)

pub returns-in_default-8 : goal.returns-in_default-8
unfolding class_of listed point_types system_types process_types end_types class_number ◌&◌
returns-in_default-8 c = spans 0 107 106 150 refl c.args.kind (omega arith) (omega arith) (λ e. omega arith)
