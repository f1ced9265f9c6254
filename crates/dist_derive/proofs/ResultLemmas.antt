-- What holds of a result's value, where it has one.
use Rattle.std.proofs.Common.{Result, Ok, Err, IfOk}

pub if_ok_map : {X E : Type 0} (r : Result X E) (P Q : X → Type 0) → ((x : X) → P x → Q x) → IfOk r P → IfOk r Q
if_ok_map (Ok x) P Q f h = f x h
if_ok_map (Err e) P Q f h = tt

pub if_ok_both : {X E : Type 0} (r : Result X E) (P Q S : X → Type 0) → ((x : X) → P x → Q x → S x) → IfOk r P → IfOk r Q → IfOk r S
if_ok_both (Ok x) P Q S f h g = f x h g
if_ok_both (Err e) P Q S f h g = tt
