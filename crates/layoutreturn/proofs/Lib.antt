-- Deciding: where a body is read, it is the body of the request. OneWalk: one walk of the report gives the outcome that is defined. Raising: a stateid may be
-- raised first. Refusing: a return that is refused leaves the file as it is. Refusals: no refusal is 0. Settling: what C is answered, and its totals apart, are of the outcome that is defined.
pub mod Deciding
mod OneWalk
mod Raising
pub mod Refusing
pub mod Refusals
pub mod Settling
