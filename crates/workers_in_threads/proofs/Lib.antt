-- Lemmas on what threads bring back.

-- Lemmas on one worker among several.
pub mod Order
pub mod Readiness
pub mod Beginning
pub mod Knowing
pub mod Keeping
pub mod Looked
pub mod Raced
pub mod Rising
pub mod Handing
pub mod Evacuation
-- Lemmas on what workers on threads of their own bring together.
pub mod Lists
pub mod Named
pub mod Parts
pub mod Joined
pub mod Settled
pub mod Refused
pub mod Bringing
pub mod Crossing
pub mod EachThread
pub mod Endings
pub mod Back
pub mod LastPlaces
pub mod Told
pub mod Concluding
pub mod Taking
pub mod Places
pub mod Promised
