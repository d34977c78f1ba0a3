mod Keeping
mod Meters
mod ByNumber
mod Open
mod Listing
