-- Laws of lists of members, and of sets of places.
pub mod MemberLists
pub mod PlaceLaws
