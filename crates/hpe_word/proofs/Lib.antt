mod Woven
